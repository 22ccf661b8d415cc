use Rattle.reading.proofs.FewNames.{counting-end, counting-newline, counting-turn}
use mathlib.Core.Path.{sym, ◌∙◌}
use Rattle.reading.proofs.label_lines.count_names.Goals as goal

pub loop-j-preserved-then-newline : goal.loop-j-preserved-then-newline
loop-j-preserved-then-newline c =
    counting-newline _ _ _ _ _ _ c.loop-j.invariant c.loop-j-test.true (sym c.newline.ensures ∙ c.if-newline.true)

pub loop-j-preserved : goal.loop-j-preserved
loop-j-preserved c =
    counting-turn _ _ _ _ _ _ c.loop-j.invariant c.loop-j-test.true (sym c.newline.ensures ∙ c.if-newline.false) c.if-most-count.false

pub returns : goal.returns
returns c = counting-end _ _ _ _ _ _ c.loop-j.invariant c.loop-j-test.false
