-- The function `line_byte` meets its contract. Assumes nothing.
use Rattle.naming.proofs.LineLaws.{same_byte}
use Rattle.naming.proofs.lines.line_byte.Goals as goal

pub returns-then-i-source : goal.returns-then-i-source
returns-then-i-source c = let a = c.args in same_byte a.source.now a.i 0 10 c.if-i-source.true
