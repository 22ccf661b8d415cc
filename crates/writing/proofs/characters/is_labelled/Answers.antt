-- The function `is_labelled` meets its contract. Assumes nothing.
use Rattle.writing.proofs.LinePlaces.{label-tells, states-tell}
use Rattle.writing.proofs.characters.is_labelled.Goals as goal

pub returns-then-byte_or_zero-ne10 : goal.returns-then-byte_or_zero-ne10
returns-then-byte_or_zero-ne10 c = label-tells _ _ _ _ c.byte_or_zero.ensures c.if-byte_or_zero-ne10.true

pub returns-else-byte_or_zero-ne10 : goal.returns-else-byte_or_zero-ne10
returns-else-byte_or_zero-ne10 c = states-tell _ _ _ _ c.byte_or_zero.ensures c.if-byte_or_zero-ne10.false c.byte_or_zero-else-byte_or_zero-ne10.ensures
