-- The function `ended` meets its contract. Assumes nothing.
use Rattle.lexer.proofs.NextBytes.{ended-told}
use Rattle.lexer.proofs.label.ended.Goals as goal

pub returns : goal.returns
returns c = ended-told _ _ _ _ c.next_byte.ensures c.is_none.ensures
