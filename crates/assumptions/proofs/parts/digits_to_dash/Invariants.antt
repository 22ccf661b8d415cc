-- The function `digits_to_dash` meets its contract. A turn passes one digit and keeps the value that the part comes to. The measure is what is
-- left of the text. Assumes nothing.
use Prim.Native.Nat.{◌-◌}
use Rattle.assumptions.proofs.PartWalks.{Valuing}
use lib.ListN.{length}
use Rattle.assumptions.proofs.parts.digits_to_dash.Given as goal

abbrev pub invariant-loop-b : goal.invariant-loop-b
invariant-loop-b l = Valuing l.text l.initial.d l.d l.n

abbrev pub decreases-loop-b : goal.decreases-loop-b
decreases-loop-b l = length l.text - l.d.at
