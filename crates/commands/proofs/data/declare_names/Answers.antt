-- The function `declare_names` meets its contract: the first of its kind, and the names. Assumes nothing.
use Rattle.block.specs.Blocks.{with_taxa}
use Rattle.block.specs.Judged.{judged}
use Rattle.block.specs.Outcome.{then}
use Rattle.commands.proofs.GivenLaws.{names_if_some}
use Rattle.commands.specs.DataHeld.{declared}
use Rattle.commands.specs.StateHeld.{data_of, names_in}
use Rattle.lexer.specs.Base.{pick}
use Rattle.std.proofs.lemmas.Result.{err_from_is_err_and}
use mathlib.Core.Path.{sym, ap, ◌∙◌}
use Rattle.commands.proofs.data.declare_names.Goals as goal

pub returns-then-is_some-clause-step : goal.returns-then-is_some-clause-step
unfolding declared pick
returns-then-is_some-clause-step c =
    λ m text starts e. rw (← (c.is_some.ensures ∙ names_if_some text starts _), c.if-is_some.true)

pub returns-clause-step : goal.returns-clause-step
unfolding declared pick then judged with_taxa data_of names_in
returns-clause-step c =
    λ m text starts e. rw (← (c.is_some.ensures ∙ names_if_some text starts _), c.if-is_some.false, sym e ∙ ap (judged _) c.in_ok-judgement.was)

pub returns-in_err-judgement-clause-step : goal.returns-in_err-judgement-clause-step
unfolding declared pick then judged
returns-in_err-judgement-clause-step c =
    let p = err_from_is_err_and c.from_residual.result c.from_residual.ensures.1 in
    λ m text starts e. rw (p.1, p.2, ← (c.is_some.ensures ∙ names_if_some text starts _), c.if-is_some.false, sym e ∙ ap (judged _) c.in_err-judgement.was)
