-- The function `digits_value` meets its contract. A turn passes one digit and keeps the value that the text comes to. The measure is what is left of
-- the text. Assumes nothing.
use Prim.Native.Nat.{◌-◌}
use Rattle.lexer.proofs.TextWalks.{Counting}
use lib.ListN.{length}
use Rattle.lexer.proofs.label.digits_value.Given as goal

abbrev pub invariant-loop-b : goal.invariant-loop-b
invariant-loop-b l = Counting l.text l.initial.d l.d l.n

abbrev pub decreases-loop-b : goal.decreases-loop-b
decreases-loop-b l = length l.text - l.d.at
