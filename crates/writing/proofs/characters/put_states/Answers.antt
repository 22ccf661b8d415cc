-- The function `put_states` meets its contract. Assumes nothing.
use Rattle.writing.proofs.EntryPuts.{slash-none, slash-some}
use Rattle.writing.proofs.characters.put_states.Goals as goal

pub returns-then-byte_or_zero-ne115 : goal.returns-then-byte_or_zero-ne115
returns-then-byte_or_zero-ne115 c = slash-none _ _ _ c.byte_or_zero.ensures c.if-byte_or_zero-ne115.true

pub returns : goal.returns
returns c = slash-some _ _ _ c.byte_or_zero.ensures c.if-byte_or_zero-ne115.false c.put_all-m.ensures c.put_each.ensures
