-- The function `keyed_cells` meets its contract: the key stands there, and then the cells are judged; or it does not. Assumes nothing.
use Rattle.lexer.specs.Base.{bytes}
use mathlib.Core.Path.{refl}
use Rattle.judging.proofs.RowsTold.{cells-keyed, cells-no-key}
use Rattle.judging.proofs.rows.keyed_cells.Goals as goal

pub returns-in_err-j : goal.returns-in_err-j
unfolding bytes
returns-in_err-j c = rw c.from_residual.ensures (λ some. cells-no-key _ _ _ _ _ c.in_err-j.ensures refl)

pub returns : goal.returns
unfolding bytes
returns c = λ some. cells-keyed _ _ _ _ _ c.in_ok-j.ensures _ refl some _ c.cells_line.ensures
