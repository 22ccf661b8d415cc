-- The function `begin_data` meets its contract. Assumes nothing.
use Rattle.block.specs.Outcome.{done}
use Rattle.commands.proofs.GivenLaws.{matrix_if_some, none_if_not}
use Rattle.commands.specs.StateHeld.{stepped}
use Rattle.lexer.specs.Base.{pick}
use mathlib.Core.Path.{sym, ap, ◌∙◌}
use Rattle.commands.proofs.blocks.begin_data.Goals as goal

pub returns-then-is_some-clause-step : goal.returns-then-is_some-clause-step
unfolding stepped pick
returns-then-is_some-clause-step c =
    λ m text work. rw (← (c.is_some.ensures ∙ matrix_if_some text work m _), c.if-is_some.true)

pub returns-clause-step : goal.returns-clause-step
unfolding stepped pick
returns-clause-step c =
    λ m text work. rw (← (c.is_some.ensures ∙ matrix_if_some text work m _), c.if-is_some.false, ← c.no_data.ensures.step m text work) (ap done (c.in_data.ensures.step m text work))

pub returns-clause-placed : goal.returns-clause-placed
returns-clause-placed c =
    λ text front size h. c.in_data.ensures.placed text front size h (c.no_data.ensures.placed text front size h.taxa) (none_if_not _ (sym c.is_some.ensures ∙ c.if-is_some.false))
