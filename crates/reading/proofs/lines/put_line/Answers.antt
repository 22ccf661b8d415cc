use Rattle.reading.proofs.RowWalks.{line-newline, line-over, line_step, rowing-end, rowing_start}
use mathlib.Core.Path.{sym, ◌∙◌}
use borrow.Author.Rules.{rules}
use Rattle.reading.proofs.lines.put_line.Goals as goal

pub loop-i-init : goal.loop-i-init
loop-i-init c = rowing_start _ _ c.begin_row-walk.ensures

pub returns-then-newline : goal.returns-then-newline
returns-then-newline c =
    rowing-end c.loop-i.invariant (λ f row g. line-newline _ _ _ _ c.loop-i-test.true (sym c.newline.ensures ∙ c.if-newline.true) f row)

pub loop-i-preserved : goal.loop-i-preserved
loop-i-preserved c =
    line_step c.loop-i-test.true (λ b. search rules) (sym c.newline.ensures ∙ c.if-newline.false)
    c.put_step.ensures c.loop-i.invariant

pub returns : goal.returns
returns c = rowing-end c.loop-i.invariant (λ f row g. line-over _ _ _ _ c.loop-i-test.false f row)
