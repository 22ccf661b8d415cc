-- The function `put_set_cell` meets its contract: a blank and the set. Assumes nothing.
use Rattle.reading.proofs.RowPieces.{row_one}
use mathlib.Core.Path.{refl}
use Rattle.reading.proofs.sets.put_set_cell.Goals as goal

pub returns : goal.returns
returns c =
    rw c.row_behind.ensures (row_one _ c.put_blank-at.ensures c.put_set-next.ensures refl)
