-- The function `quoted_end` meets its contract. A turn passes one byte, or two quotes, and keeps the end. The measure is what is left of the text. Assumes
-- nothing.
use Prim.Native.Nat.{◌-◌}
use Rattle.lexer.proofs.EndTurns.{Quoting}
use lib.ListN.{length}
use mathlib.Core.Bool.{false}
use Rattle.lexer.proofs.scanning.quoted_end.Given as goal

abbrev pub invariant-loop-i : goal.invariant-loop-i
invariant-loop-i l = Quoting l.text l.mark false l.i

abbrev pub decreases-loop-i : goal.decreases-loop-i
decreases-loop-i l = length l.text - l.i
