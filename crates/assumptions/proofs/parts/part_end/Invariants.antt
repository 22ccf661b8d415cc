-- The function `part_end` meets its contract. A turn passes one byte. The measure is what is left of the text. Assumes nothing.
use Prim.Native.Nat.{◌-◌}
use Rattle.assumptions.proofs.PartWalks.{Ending}
use lib.ListN.{length}
use Rattle.assumptions.proofs.parts.part_end.Given as goal

abbrev pub invariant-loop-b : goal.invariant-loop-b
invariant-loop-b l = Ending l.text l.initial.d l.d

abbrev pub decreases-loop-b : goal.decreases-loop-b
decreases-loop-b l = length l.text - l.d.at
