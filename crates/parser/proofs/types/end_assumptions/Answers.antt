-- The function `end_assumptions` meets its contract. Assumes nothing.
use Rattle.commands.specs.StateHeld.{stepped, state_of, phase_of}
use mathlib.Core.Bool.{true≢false}
use Rattle.parser.proofs.types.end_assumptions.Goals as goal

pub returns-clause-step : goal.returns-clause-step
unfolding stepped state_of phase_of
returns-clause-step c = λ m text work h. rw (c.with_types.ensures.typed m text work h)

pub returns-clause-placed : goal.returns-clause-placed
returns-clause-placed c =
    λ text front size p. record { phase = tt; taxa = p.taxa; matrix = c.with_types.ensures.placed text front size p.matrix; untyped = λ e. absurd (true≢false e) }
