-- The function `data_end` meets its contract. Assumes nothing.
use Rattle.commands.proofs.DataLaws.{end-absent, end_read}
use Rattle.commands.proofs.GivenLaws.{matrix-if_none}
use Rattle.commands.specs.StateHeld.{phase_of, state_of, stepped}
use mathlib.Core.Path.{sym, ◌∙◌}
use Rattle.commands.proofs.data.data_end.Goals as goal

pub returns-then-is_none-clause-step : goal.returns-then-is_none-clause-step
unfolding stepped
returns-then-is_none-clause-step c =
    λ m text work. end-absent _ _ _ (sym (matrix-if_none text work m _ _ c.is_none.ensures) ∙ c.if-is_none.true)

pub returns-clause-step : goal.returns-clause-step
unfolding stepped state_of phase_of
returns-clause-step c =
    λ m text work. end_read _ _ _ (sym (matrix-if_none text work m _ _ c.is_none.ensures) ∙ c.if-is_none.false)
