-- The function `put_cell` meets its contract: nothing, or a blank and the cell. Assumes nothing.
use Rattle.reading.proofs.RowPieces.{cell-put, cell-none}
use mathlib.Core.Path.{refl, sym, ◌∙◌}
use Rattle.reading.proofs.cells.put_cell.Goals as goal

pub returns-then-not-has_cell : goal.returns-then-not-has_cell
returns-then-not-has_cell c = cell-none _ (sym c.has_cell.ensures ∙ c.if-not-has_cell.true)

pub returns : goal.returns
returns c =
    rw c.row_behind.ensures (cell-put _ (sym c.has_cell.ensures ∙ c.if-not-has_cell.false) c.put_blank-at.ensures c.put_code-next.ensures refl)
