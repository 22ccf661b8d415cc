-- The function `data_step` meets its contract: nothing behind the matrix, and else what the command declares. Assumes nothing.
use Rattle.block.specs.Outcome.{done, then}
use Rattle.commands.proofs.AnswerLaws.{answers-wider}
use Rattle.commands.proofs.DataLaws.{step-behind, step-open}
use Rattle.commands.proofs.GivenLaws.{matrix_if_some}
use Rattle.commands.specs.DataHeld.{declared}
use Rattle.commands.specs.StateHeld.{data_of, stepped}
use Rattle.commands.specs.Stepping.{answered}
use Rattle.lexer.specs.Stored.{word_of}
use Rattle.std.proofs.lemmas.Result.{err_from_is_err_and}
use mathlib.Core.Path.{refl, sym, ap, ◌∙◌}
use Rattle.commands.proofs.data.data_step.Goals as goal

pub returns-then-is_some-clause-step : goal.returns-then-is_some-clause-step
unfolding stepped word_of data_of
returns-then-is_some-clause-step c =
    λ m size other. answered (step-behind _ _ _ _ _ (sym (matrix_if_some _ _ m _) ∙ sym c.is_some.ensures ∙ c.if-is_some.true))

pub returns-clause-step : goal.returns-clause-step
unfolding stepped declared then data_of
returns-clause-step c =
    λ m size other. step-open _ _ _ _ _ (sym (matrix_if_some _ _ m _) ∙ sym c.is_some.ensures ∙ c.if-is_some.false) (answers-wider (λ p. p.labels) (c.in_ok-d.ensures.step m size other)) (ap done (c.in_data.ensures.step m _ _))

pub returns-clause-placed : goal.returns-clause-placed
returns-clause-placed c =
    λ size at p q e. c.in_data.ensures.placed _ _ size p (c.in_ok-d.ensures.placed size at q) e

pub returns-in_err-d-clause-step : goal.returns-in_err-d-clause-step
unfolding stepped declared then data_of
returns-in_err-d-clause-step c =
    let p = err_from_is_err_and c.from_residual.result c.from_residual.ensures.1 in
    λ m size other. rw (p.1, p.2) (step-open _ _ _ _ _ (sym (matrix_if_some _ _ m _) ∙ sym c.is_some.ensures ∙ c.if-is_some.false) (answers-wider (λ p. p.labels) (c.in_err-d.ensures.step m size other)) refl)
