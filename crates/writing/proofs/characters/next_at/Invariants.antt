-- The function `next_at` meets its contract: a turn goes over the line of one state label. The measure is what is left of the bytes. Assumes nothing.
use Prim.Native.Nat.{ℕ, ◌-◌}
use Rattle.writing.specs.CharacterLines.{NextFound}
use lib.ListN.{length}
use Rattle.writing.proofs.characters.next_at.Given as goal

abbrev pub invariant-loop-i : goal.invariant-loop-i
invariant-loop-i l = (r : ℕ) → NextFound l.source l.i r → NextFound l.source l.at r

abbrev pub decreases-loop-i : goal.decreases-loop-i
decreases-loop-i l = length l.source - l.i
