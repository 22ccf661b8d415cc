-- The function `put_cells` meets its contract. A turn puts the cells of a run of plain bytes and the cell of the next byte. The measure is what is left
-- of the text. Assumes nothing.
use Prim.Native.Nat.{◌-◌}
use Rattle.reading.proofs.RowPieces.{CellsLeft}
use lib.ListN.{length}
use mathlib.Core.Path.{◌≡◌}
use Rattle.reading.proofs.cells.put_cells.Given as goal

abbrev pub invariant-loop-b : goal.invariant-loop-b
invariant-loop-b l = (length l.buffer ≡ length l.initial.buffer) × CellsLeft l.text l.codes l.start l.initial.buffer l.initial.row l.buffer l.row l.c

abbrev pub decreases-loop-b : goal.decreases-loop-b
decreases-loop-b l = length l.text - l.c.at
