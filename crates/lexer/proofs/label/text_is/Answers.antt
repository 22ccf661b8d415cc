use Rattle.lexer.proofs.NextBytes.{yielded}
use Rattle.lexer.proofs.TextWalks.{matching-turn, matching-over, matching-short, matching-end}
use mathlib.Core.Path.{refl, sym, ◌∙◌}
use native.Mathlib.Omega.{arith}
use Rattle.lexer.proofs.label.text_is.Goals as goal

pub loop-k-init : goal.loop-k-init
loop-k-init c = record { short = omega arith; rest = refl }

pub returns-then-lower : goal.returns-then-lower
returns-then-lower c =
    let read = (yielded _ _ _ c.next_byte.ensures).byte _ _ c.in-Some.is in
    matching-over _ _ _ _ _ c.loop-k.invariant c.loop-k-test.true _ _ read (λ e. c.if-lower.true (c.lower.ensures ∙ e ∙ sym c.lower-in-loop-k.ensures))

pub loop-k-preserved : goal.loop-k-preserved
loop-k-preserved c =
    let read = (yielded _ _ _ c.next_byte.ensures).byte _ _ c.in-Some.is in
    matching-turn _ _ _ _ _ c.loop-k.invariant c.loop-k-test.true _ _ read (sym c.lower.ensures ∙ c.if-lower.false ∙ c.lower-in-loop-k.ensures)

pub returns-in_default : goal.returns-in_default
returns-in_default c = matching-short _ _ _ _ _ c.loop-k.invariant c.loop-k-test.true ((yielded _ _ _ c.next_byte.ensures).end c.in_default.is)

pub returns : goal.returns
returns c = c.ended.ensures ∙ matching-end _ _ _ _ _ c.loop-k.invariant c.loop-k-test.false
