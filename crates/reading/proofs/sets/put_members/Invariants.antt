-- The function `put_members` meets its contract. A turn puts a state whose mark is not 0, or passes over it. The measure is how many are left. Assumes
-- nothing.
use Prim.Native.Nat.{◌≤◌}
use Rattle.reading.proofs.SetPieces.{MembersLeft}
use lib.ListN.{length}
use mathlib.Core.Path.{◌≡◌}
use Rattle.reading.proofs.sets.put_members.Given as goal

abbrev pub invariant-loop-i : goal.invariant-loop-i
invariant-loop-i l = (l.i ≤ length l.set) × (length l.buffer ≡ length l.initial.buffer) × MembersLeft l.initial.buffer l.n l.set l.buffer l.at l.begun l.i
