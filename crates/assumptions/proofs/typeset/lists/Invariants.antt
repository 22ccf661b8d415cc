-- The function `lists` meets its contract. A turn passes one list. The measure is what is left up to the end. Assumes nothing.
use Prim.Native.Nat.{◌-◌}
use Rattle.assumptions.proofs.TypesetLists.{Lists}
use Rattle.assumptions.proofs.typeset.lists.Given as goal

abbrev pub invariant-loop-j : goal.invariant-loop-j
invariant-loop-j l = Lists l.text l.held.count l.head l.from l.to l.held.at l.initial.work l.work l.i

abbrev pub decreases-loop-j : goal.decreases-loop-j
decreases-loop-j l = l.to - l.i
