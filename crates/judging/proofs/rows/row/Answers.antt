-- The function `row` meets its contract: a name stands there, and then the cells are judged; or none does. Assumes nothing.
use Rattle.lexer.specs.Base.{bytes}
use mathlib.Core.Path.{refl}
use Rattle.judging.proofs.RowsTold.{row-named, row-unnamed}
use Rattle.judging.proofs.rows.row.Goals as goal

pub returns-in_err-j : goal.returns-in_err-j
unfolding bytes
returns-in_err-j c = rw c.from_residual.ensures (λ some. row-unnamed _ _ _ _ _ c.in_err-j.ensures refl)

pub returns : goal.returns
unfolding bytes
returns c = λ some. row-named _ _ _ _ _ c.in_ok-j.ensures _ refl _ (c.keyed_cells.ensures some)
