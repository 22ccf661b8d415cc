-- The function `word_end` meets its contract. A turn passes a byte of the word, or a comment in it and the plain bytes behind the comment, and
-- keeps the end. The measure is what is left of the text. Assumes nothing.
use Prim.Native.Nat.{◌-◌}
use Rattle.lexer.proofs.WordEnds.{Wording}
use lib.ListN.{length}
use Rattle.lexer.proofs.scanning.word_end.Given as goal

abbrev pub invariant-loop-i : goal.invariant-loop-i
invariant-loop-i l = Wording l.text l.from l.i

abbrev pub decreases-loop-i : goal.decreases-loop-i
decreases-loop-i l = length l.text - l.i
