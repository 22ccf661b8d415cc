use Rattle.block.proofs.WordCounts.{counting-newline, counting-turn, counting-end}
use mathlib.Core.Path.{sym, ◌∙◌}
use Rattle.block.proofs.words.count_words.Goals as goal

pub loop-i-preserved-then-newline : goal.loop-i-preserved-then-newline
loop-i-preserved-then-newline c = counting-newline _ _ _ _ _ _ c.loop-i.invariant c.loop-i-test.true (sym c.newline.ensures ∙ c.if-newline.true)

pub loop-i-preserved : goal.loop-i-preserved
loop-i-preserved c = counting-turn _ _ _ _ _ _ c.loop-i.invariant c.loop-i-test.true (sym c.newline.ensures ∙ c.if-newline.false)

pub returns : goal.returns
returns c = counting-end _ _ _ _ _ _ c.loop-i.invariant c.loop-i-test.false
