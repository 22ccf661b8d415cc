-- The function `begin_taxa` meets its contract. Assumes nothing.
use Rattle.block.specs.Outcome.{done}
use Rattle.commands.proofs.GivenLaws.{matrix_if_some, names_if_some}
use Rattle.commands.specs.StateHeld.{names_in, phase_of, stepped}
use Rattle.lexer.specs.Base.{pick}
use mathlib.Core.Path.{ap, ◌∙◌}
use Rattle.commands.proofs.blocks.begin_taxa.Goals as goal

pub returns-then-is_some-clause-step : goal.returns-then-is_some-clause-step
unfolding stepped pick
returns-then-is_some-clause-step c =
    λ m text work. rw (← (c.is_some.ensures ∙ names_if_some text work _), ← (c.is_some-2.ensures ∙ matrix_if_some text work m _), c.if-is_some.true)

pub returns-clause-step : goal.returns-clause-step
unfolding stepped pick phase_of names_in
returns-clause-step c =
    λ m text work. rw (← (c.is_some.ensures ∙ names_if_some text work _), ← (c.is_some-2.ensures ∙ matrix_if_some text work m _), c.if-is_some.false) (ap done (c.in_phase.ensures.step m text work))

pub returns-clause-placed : goal.returns-clause-placed
returns-clause-placed c = λ text front size h. c.in_phase.ensures.placed text front size h tt
