-- The function `begin_assumptions` meets its contract. Assumes nothing.
use Rattle.commands.proofs.BlockLaws.{assumptions-refused, assumptions-begin}
use Rattle.commands.proofs.GivenLaws.{matrix-if_none}
use Rattle.lexer.proofs.Basics.{or_left}
use Rattle.lexer.specs.Base.{option_of, pick}
use Rattle.block.specs.Outcome.{done}
use Rattle.commands.specs.StateHeld.{phase_of, set_of, stepped}
use mathlib.Core.Path.{ap, ◌∙◌}
use Rattle.commands.proofs.blocks.begin_assumptions.Goals as goal

pub returns-then-s-is_none-clause-step : goal.returns-then-s-is_none-clause-step
unfolding stepped
returns-then-s-is_none-clause-step c =
    λ m text work. assumptions-refused _ _ _ _ (rw (matrix-if_none text work m _ _ c.is_none.ensures) at c.if-s-is_none.true)

pub returns-clause-step : goal.returns-clause-step
unfolding stepped phase_of set_of option_of pick
returns-clause-step c =
    λ m text work. ap done (c.in_phase.ensures.step m text work) ∙ assumptions-begin _ _ _ _ (rw (matrix-if_none text work m _ _ c.is_none.ensures) at c.if-s-is_none.false)

pub returns-clause-placed : goal.returns-clause-placed
returns-clause-placed c =
    λ text front size h. c.in_phase.ensures.placed text front size h (h.untyped (or_left _ _ c.if-s-is_none.false))
