-- The function `mark_byte` meets its contract. Assumes nothing.
use Rattle.lexer.proofs.TextItems.{mark-here, mark-past}
use Rattle.lexer.proofs.token.mark_byte.Goals as goal

pub returns-then-text-i : goal.returns-then-text-i
returns-then-text-i c = mark-past _ _ c.if-text-i.true

pub returns : goal.returns
returns c = mark-here _ _ c.if-text-i.false
