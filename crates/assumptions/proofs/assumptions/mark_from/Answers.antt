-- The function `mark_from` meets its contract. Assumes nothing.
use Rattle.assumptions.proofs.NextWordLaws.{missed}
use Rattle.assumptions.proofs.TypesetWalks.{at-end, at_done, at-refused}
use Rattle.lexer.specs.Base.{pick}
use mathlib.Core.Path.{sym, ◌∙◌}
use Rattle.block.specs.Outcome.{outcome, then}
use Rattle.assumptions.proofs.assumptions.mark_from.Goals as goal

pub returns-in_err-i-clause-answer : goal.returns-in_err-i-clause-answer
unfolding then outcome
returns-in_err-i-clause-answer c = λ t s u e f.
    let p = missed c.word_ahead.ensures _ c.from_residual.ensures.1 c.in_err-i.ensures.value c.in_err-i.ensures.ok_part in
    rw p.0 (sym e ∙ at-end t _ _ _ s _ p.1)

pub returns-then-punct-clause-answer : goal.returns-then-punct-clause-answer
unfolding then outcome pick
returns-then-punct-clause-answer c = λ t s u e f.
    at_done t _ _ _ s (c.word_ahead.ensures.some _ c.in_ok-i.ensures.ok_part) u (f _ ∙ rw (sym c.punct.ensures ∙ c.if-punct.true))

pub returns-clause-answer : goal.returns-clause-answer
unfolding then outcome pick
returns-clause-answer c = λ t s u e f.
    at-refused t _ _ _ s (c.word_ahead.ensures.some _ c.in_ok-i.ensures.ok_part) _ _ (f _ ∙ rw (sym c.punct.ensures ∙ c.if-punct.false))
