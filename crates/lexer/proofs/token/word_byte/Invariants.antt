-- The function `word-byte` meets its contract. A turn passes a comment in the word and keeps the next byte. The measure is what is left of
-- the text. Assumes nothing.
use Prim.Native.Nat.{◌-◌}
use Rattle.lexer.specs.Bytes.{word_item}
use lib.ListN.{length, drop}
use mathlib.Core.Path.{◌≡◌}
use Rattle.lexer.proofs.token.word_byte.Given as goal

abbrev pub invariant-loop-i : goal.invariant-loop-i
invariant-loop-i l = word_item 0 l.i (drop l.i l.text) ≡ word_item 0 l.from (drop l.from l.text)

abbrev pub decreases-loop-i : goal.decreases-loop-i
decreases-loop-i l = length l.text - l.i
