-- The function `after_typeset` meets its contract. Assumes nothing.
use Rattle.std.proofs.lemmas.Result.{err_from_is_err_and}
use Rattle.block.specs.Judged.{judged}
use Rattle.block.specs.Outcome.{done, then}
use Rattle.commands.specs.StateHeld.{stepped, set_of}
use Rattle.lexer.specs.Base.{pick}
use mathlib.Core.Path.{ap}
use Rattle.parser.proofs.types.after_typeset.Goals as goal

pub returns-clause-step : goal.returns-clause-step
unfolding stepped then judged set_of pick
returns-clause-step c = λ m text work. rw c.in_ok-answer.was (ap done (c.in_assumptions.ensures.step m text work))

pub returns-in_err-answer-clause-step : goal.returns-in_err-answer-clause-step
unfolding stepped then judged
returns-in_err-answer-clause-step c =
    let p = err_from_is_err_and c.from_residual.result c.from_residual.ensures.1 in
    λ m text work. rw (p.1, p.2, c.in_err-answer.was)
