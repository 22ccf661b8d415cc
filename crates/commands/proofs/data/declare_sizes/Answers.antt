-- The function `declare_sizes` meets its contract: the first of its kind, and what it declares. Assumes nothing.
use Rattle.block.specs.Blocks.{with_dimensions}
use Rattle.block.specs.Outcome.{then, outcome}
use Rattle.commands.proofs.GivenLaws.{given_if_some}
use Rattle.commands.specs.DataHeld.{declared}
use Rattle.commands.specs.StateHeld.{data_of}
use Rattle.lexer.specs.Base.{option_of, pick}
use Rattle.std.proofs.lemmas.Result.{err_from_is_err_and}
use mathlib.Core.Path.{◌∙◌}
use Rattle.commands.proofs.data.declare_sizes.Goals as goal

pub returns-then-is_some-clause-step : goal.returns-then-is_some-clause-step
unfolding declared pick
returns-then-is_some-clause-step c =
    λ m. rw (← (c.is_some.ensures ∙ given_if_some _), c.if-is_some.true)

pub returns-clause-step : goal.returns-clause-step
unfolding declared pick then outcome with_dimensions data_of option_of
returns-clause-step c =
    λ m. rw (← (c.is_some.ensures ∙ given_if_some _), c.if-is_some.false, ← c.in_ok-sizes.ensures)

pub returns-in_err-sizes-clause-step : goal.returns-in_err-sizes-clause-step
unfolding declared pick then outcome
returns-in_err-sizes-clause-step c =
    let p = err_from_is_err_and c.from_residual.result c.from_residual.ensures.1 in
    λ m. rw (p.1, p.2, ← (c.is_some.ensures ∙ given_if_some _), c.if-is_some.false, ← c.in_err-sizes.ensures)
