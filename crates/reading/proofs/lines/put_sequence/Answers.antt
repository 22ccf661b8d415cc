use Rattle.reading.proofs.RowWalks.{rowing-as, rowing-end, rowing_start, step-ahead, step-on, step-stop, words-over, words-pass}
use Rattle.reading.proofs.ToldRows.{ahead-on, ahead-rowing}
use mathlib.Core.Path.{sym, ◌∙◌}
use native.Mathlib.Omega.{arith}
use borrow.Author.Rules.{rules}
use Rattle.reading.proofs.lines.put_sequence.Goals as goal

pub loop-i-init : goal.loop-i-init
loop-i-init c = rowing_start _ _ c.begin_row-walk.ensures

pub loop-i-preserved-then-newline : goal.loop-i-preserved-then-newline
loop-i-preserved-then-newline c =
    rowing-as c.loop-i.invariant (λ f row g. words-pass _ _ _ _ c.loop-i-test.true _ (sym c.newline.ensures ∙ c.if-newline.true) f row)

pub returns-then-is_full : goal.returns-then-is_full
returns-then-is_full c =
    step-stop c.loop-i-test.true (λ b. search rules) (sym c.newline.ensures ∙ c.if-newline.false)
    c.put_step.ensures c.loop-i.invariant (sym c.is_full.ensures ∙ c.if-is_full.true)

pub loop-i-smaller : goal.loop-i-smaller
loop-i-smaller c =
    let a = step-ahead c.put_step.ensures in
    let b = ahead-on c.put_ahead.ensures in
    omega (arith, c.loop-i-test.true)

pub loop-i-preserved : goal.loop-i-preserved
loop-i-preserved c =
    ahead-rowing (λ b. search rules) c.put_ahead.ensures
    (step-on c.loop-i-test.true (λ b. search rules) (sym c.newline.ensures ∙ c.if-newline.false)
    c.put_step.ensures c.loop-i.invariant (sym c.is_full.ensures ∙ c.if-is_full.false))

pub returns : goal.returns
returns c = rowing-end c.loop-i.invariant (λ f row g. words-over _ _ _ _ _ c.loop-i-test.false f row)
