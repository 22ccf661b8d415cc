-- The function `word_cells` meets its contract. A turn passes a run of plain bytes and one symbol more, and keeps what all comes to. The measure is
-- what is left of the text. Assumes nothing.
use Prim.Native.Nat.{◌-◌}
use Rattle.matrix.proofs.CellWalk.{Coding}
use lib.ListN.{length}
use Rattle.matrix.proofs.cells.word_cells.Given as goal

abbrev pub invariant-loop-k : goal.invariant-loop-k
invariant-loop-k l = Coding l.text l.codes l.start l.n l.states l.c

abbrev pub decreases-loop-k : goal.decreases-loop-k
decreases-loop-k l = length l.text - l.c.at
