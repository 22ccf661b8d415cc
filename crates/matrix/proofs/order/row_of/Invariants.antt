-- The function `row_of` meets its contract: a turn passes one name that is another. Assumes nothing.
use Rattle.matrix.proofs.PlaceWalk.{Placing}
use Rattle.matrix.proofs.order.row_of.Given as goal

abbrev pub invariant-loop-k : goal.invariant-loop-k
invariant-loop-k l = Placing l.text l.work l.at l.rows l.i l.k
