-- The function `run_cells` meets its contract. A turn passes one symbol and keeps what all comes to. Assumes nothing.
use Rattle.matrix.proofs.CellWalk.{Running}
use Rattle.matrix.proofs.cells.run_cells.Given as goal

abbrev pub invariant-loop-i : goal.invariant-loop-i
invariant-loop-i l = Running l.text l.codes l.from l.end l.count l.all l.n l.states l.i
