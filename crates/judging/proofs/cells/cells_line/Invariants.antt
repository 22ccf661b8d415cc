-- The function `cells_line` meets its contract. A turn reads one byte, or two. The measure is what is left of the bytes. Assumes nothing.
use Prim.Native.Nat.{◌-◌}
use Rattle.judging.proofs.CellsJudged.{row_begun}
use Rattle.judging.specs.CellModes.{Moves}
use lib.ListN.{length}
use Rattle.judging.proofs.cells.cells_line.Given as goal

abbrev pub invariant-loop-walk : goal.invariant-loop-walk
invariant-loop-walk l = Moves l.source l.symbols (row_begun l.i) l.walk

abbrev pub decreases-loop-walk : goal.decreases-loop-walk
decreases-loop-walk l = length l.source - l.walk.at
