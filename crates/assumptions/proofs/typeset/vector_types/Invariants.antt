-- The function `vector_types` meets its contract. A turn stores one type. Assumes nothing.
use Rattle.assumptions.proofs.VectorTypes.{Vectoring}
use Rattle.assumptions.proofs.typeset.vector_types.Given as goal

abbrev pub invariant-loop-j : goal.invariant-loop-j
invariant-loop-j l = Vectoring l.text l.head l.from l.to l.held.at l.held.count l.initial.work l.work l.j l.k
