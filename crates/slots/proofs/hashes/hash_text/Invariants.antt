-- The function `hash_text` meets its contract. A turn takes one byte of the name, and keeps what all of it comes to. The measure is what is left of the
-- text. Assumes nothing.
use Prim.Native.Nat.{◌-◌}
use Rattle.slots.proofs.HashLaws.{Hashing}
use lib.ListN.{length}
use Rattle.slots.proofs.hashes.hash_text.Given as goal

abbrev pub invariant-loop-b : goal.invariant-loop-b
invariant-loop-b l = Hashing l.text l.initial.c l.c l.h

abbrev pub decreases-loop-b : goal.decreases-loop-b
decreases-loop-b l = length l.text - l.c.at
