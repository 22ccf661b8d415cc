-- The function `taxa_dimensions` meets its contract. Assumes nothing.
use Rattle.block.specs.Outcome.{then, outcome}
use Rattle.commands.specs.StateHeld.{stepped}
use Rattle.std.proofs.lemmas.Result.{err_from_is_err_and}
use Rattle.commands.proofs.taxa.taxa_dimensions.Goals as goal

pub returns-clause-step : goal.returns-clause-step
unfolding then outcome
returns-clause-step c =
    λ m. rw (← c.in_ok-d.ensures) (c.taxa_count.ensures.step m _ _)

pub returns-clause-placed : goal.returns-clause-placed
returns-clause-placed c =
    c.taxa_count.ensures.placed _ _

pub returns-in_err-d-clause-step : goal.returns-in_err-d-clause-step
unfolding then outcome stepped
returns-in_err-d-clause-step c =
    let p = err_from_is_err_and c.from_residual.result c.from_residual.ensures.1 in
    λ m. rw (p.1, p.2, ← c.in_err-d.ensures)
