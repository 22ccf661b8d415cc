-- The function `mark_states` meets its contract. A turn puts the state of a byte into the set. The measure is what is left of the text. Assumes nothing.
use Prim.Native.Nat.{◌-◌}
use Rattle.reading.proofs.MarkLaws.{Marking}
use lib.ListN.{length}
use Rattle.reading.proofs.sets.mark_states.Given as goal

abbrev pub invariant-loop-b : goal.invariant-loop-b
invariant-loop-b l = Marking l.text l.codes l.start l.initial.set l.from l.set l.top l.c

abbrev pub decreases-loop-b : goal.decreases-loop-b
decreases-loop-b l = length l.text - l.c.at
