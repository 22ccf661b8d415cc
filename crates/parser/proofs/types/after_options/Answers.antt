-- The function `after_options` meets its contract. Assumes nothing.
use Rattle.std.proofs.lemmas.Result.{err_from_is_err_and}
use Rattle.block.specs.Outcome.{outcome, done, then}
use Rattle.lexer.specs.Base.{option_of}
use Rattle.commands.specs.StateHeld.{stepped}
use mathlib.Core.Path.{ap}
use Rattle.parser.proofs.types.after_options.Goals as goal

pub returns-clause-step : goal.returns-clause-step
unfolding stepped then outcome option_of
returns-clause-step c = λ m text work. rw c.in_ok-o.was (ap done (c.in_assumptions.ensures.step m text work))

pub returns-in_err-o-clause-step : goal.returns-in_err-o-clause-step
unfolding stepped then outcome
returns-in_err-o-clause-step c =
    let p = err_from_is_err_and c.from_residual.result c.from_residual.ensures.1 in
    λ m text work. rw (p.1, p.2, c.in_err-o.was)
