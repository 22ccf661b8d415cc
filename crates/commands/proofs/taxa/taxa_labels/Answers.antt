-- The function `taxa_labels` meets its contract. Assumes nothing.
use Rattle.block.specs.Judged.{judged}
use Rattle.block.specs.Outcome.{done, then}
use Rattle.commands.specs.StateHeld.{names_in, phase_of, stepped}
use Rattle.std.proofs.lemmas.Result.{err_from_is_err_and}
use mathlib.Core.Path.{ap}
use Rattle.commands.proofs.taxa.taxa_labels.Goals as goal

pub returns-clause-step : goal.returns-clause-step
unfolding then judged stepped phase_of names_in
returns-clause-step c =
    λ m text starts e. rw (← e, c.in_ok-judgement.was) (ap done (c.in_phase.ensures.step m text starts))

pub returns-clause-placed : goal.returns-clause-placed
returns-clause-placed c =
    λ text front size k h. c.in_phase.ensures.placed text front size h k.within

pub returns-in_err-judgement-clause-step : goal.returns-in_err-judgement-clause-step
unfolding then judged stepped
returns-in_err-judgement-clause-step c =
    let p = err_from_is_err_and c.from_residual.result c.from_residual.ensures.1 in
    λ m text starts e. rw (p.1, p.2, ← e, c.in_err-judgement.was)
