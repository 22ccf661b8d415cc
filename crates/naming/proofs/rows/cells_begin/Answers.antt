-- The function `cells_begin` meets its contract. Assumes nothing.
use Prim.Native.Nat.{◌+◌}
use Rattle.naming.proofs.LineLaws.{line-short}
use Rattle.naming.proofs.RowLaws.{cells-begun, cells-past}
use native.Mathlib.Omega.{arith}
use Rattle.naming.proofs.rows.cells_begin.Goals as goal

pub overflow_add-result : goal.overflow_add-result
overflow_add-result c = let a = c.args in omega (arith, c.line_end.ensures, line-short a.source.now (a.at + 5))

pub returns-then-at-source : goal.returns-then-at-source
returns-then-at-source c = cells-begun _ _ c.line_end.ensures

pub returns : goal.returns
returns c = cells-past _ _ c.if-at-source.false
