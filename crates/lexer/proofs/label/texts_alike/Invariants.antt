-- The function `texts_alike` meets its contract. A turn passes one byte of each text that are alike, and keeps whether all are. The measure is what
-- is left behind the first cursor. Assumes nothing.
use Prim.Native.Nat.{◌-◌}
use Rattle.lexer.proofs.TextWalks.{Comparing}
use lib.ListN.{length}
use Rattle.lexer.proofs.label.texts_alike.Given as goal

abbrev pub invariant-loop-a : goal.invariant-loop-a
invariant-loop-a l = Comparing l.text l.initial.c l.initial.d l.c l.d

abbrev pub decreases-loop-a : goal.decreases-loop-a
decreases-loop-a l = length l.text - l.c.at
