-- The function is_utf8 meets its contract. The invariant: the rest is well-formed, where so much of a character is still to come, just if the
-- whole text is. The measure is what is left of the text. Assumes nothing.
use Prim.Native.Nat.{◌-◌}
use Rattle.lexer.proofs.Utf8Checking.{Checking}
use lib.ListN.{length}
use Rattle.lexer.proofs.utf8.is_utf8.Given as goal

abbrev pub invariant-loop-i : goal.invariant-loop-i
invariant-loop-i l = Checking l.text l.f.more l.f.low l.f.high l.i

abbrev pub decreases-loop-i : goal.decreases-loop-i
decreases-loop-i l = length l.text - l.i
