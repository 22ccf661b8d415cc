-- The function `put_type` meets its contract. Assumes nothing.
use Rattle.lexer.specs.Base.{bytes}
use Rattle.writing.proofs.EntryPuts.{ordered-put, unordered-put}
use Rattle.writing.proofs.characters.put_type.Goals as goal

pub returns-then-byte_or_zero-eq79 : goal.returns-then-byte_or_zero-eq79
unfolding bytes
returns-then-byte_or_zero-eq79 c = ordered-put _ _ _ c.byte_or_zero.ensures c.if-byte_or_zero-eq79.true c.put_all.ensures

pub returns : goal.returns
unfolding bytes
returns c = unordered-put _ _ _ c.byte_or_zero.ensures c.if-byte_or_zero-eq79.false c.put_all-2.ensures
