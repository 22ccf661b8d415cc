-- The function `put_label` meets its contract. Assumes nothing.
use Rattle.writing.proofs.EntryPuts.{label-none, label-some}
use Rattle.writing.proofs.characters.put_label.Goals as goal

pub returns-then-byte_or_zero-eq10 : goal.returns-then-byte_or_zero-eq10
returns-then-byte_or_zero-eq10 c = label-none _ _ _ c.byte_or_zero.ensures c.if-byte_or_zero-eq10.true

pub returns : goal.returns
returns c = label-some _ _ _ c.byte_or_zero.ensures c.if-byte_or_zero-eq10.false c.put-m.ensures c.put_quoted-quoted.ensures.put
