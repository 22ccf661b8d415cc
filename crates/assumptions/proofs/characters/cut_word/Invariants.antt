-- The function `cut_word` meets its contract. A turn passes one part. The measure is what is left of the text. Assumes nothing.
use Prim.Native.Nat.{◌-◌}
use Rattle.assumptions.proofs.WordCut.{Cutting}
use Rattle.lexer.specs.Stored.{word_of}
use lib.ListN.{length}
use Rattle.assumptions.proofs.characters.cut_word.Given as goal

abbrev pub invariant-loop-part : goal.invariant-loop-part
invariant-loop-part l = Cutting l.text (word_of l.text l.initial.work l.i) l.held.at l.held.count l.ordering l.initial.work l.initial.list.item l.initial.list.twice l.work l.c l.list.item l.list.twice

abbrev pub decreases-loop-part : goal.decreases-loop-part
decreases-loop-part l = length l.text - l.c.at
