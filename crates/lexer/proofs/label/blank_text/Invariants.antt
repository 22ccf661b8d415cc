-- The function `blank_text` meets its contract. A turn passes one byte of a blank and keeps whether all is blank. The measure is what is left of
-- the text. Assumes nothing.
use Prim.Native.Nat.{◌-◌}
use Rattle.lexer.proofs.TextWalks.{Blanking}
use lib.ListN.{length}
use Rattle.lexer.proofs.label.blank_text.Given as goal

abbrev pub invariant-loop-b : goal.invariant-loop-b
invariant-loop-b l = Blanking l.text l.initial.d l.d

abbrev pub decreases-loop-b : goal.decreases-loop-b
decreases-loop-b l = length l.text - l.d.at
