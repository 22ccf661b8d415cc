-- The function `end_block` meets its contract: one block after the other. Assumes nothing.
use Rattle.block.specs.Outcome.{done}
use Rattle.commands.specs.StateHeld.{phase_of, state_of, stepped}
use Rattle.parser.proofs.StepLaws.{data-placed, ends-assumptions, ends-data, ends-outside, ends-taxa, ends-trees, taxa-placed}
use mathlib.Core.Path.{ap, ◌∙◌}
use Rattle.parser.proofs.step.end_block.Goals as goal

pub returns-in-Outside-clause-step : goal.returns-in-Outside-clause-step
unfolding stepped
returns-in-Outside-clause-step c = λ m h. ends-outside m _ _ _ _ _ _ c.in-Outside.is

pub returns-in-Taxa-clause-step : goal.returns-in-Taxa-clause-step
returns-in-Taxa-clause-step c = λ m h. c.taxa_end.ensures.step m ∙ ends-taxa m _ _ _ _ _ _ _ _ _ c.in-Taxa.is

pub returns-in-Taxa-clause-placed : goal.returns-in-Taxa-clause-placed
returns-in-Taxa-clause-placed c =
    λ size p. c.taxa_end.ensures.placed size p (taxa-placed c.args.text.now c.args.starts.now size c.args.s _ _ _ _ c.in-Taxa.is p.phase)

pub returns-in-Data-clause-step : goal.returns-in-Data-clause-step
returns-in-Data-clause-step c = λ m h. c.data_end.ensures.step m _ _ ∙ ends-data m _ _ _ _ _ _ _ c.in-Data.is

pub returns-in-Data-clause-placed : goal.returns-in-Data-clause-placed
returns-in-Data-clause-placed c = λ size p. c.data_end.ensures.placed _ _ size p (data-placed _ _ size c.args.s _ _ c.in-Data.is p.phase).0

pub returns-in-Assumptions-clause-step : goal.returns-in-Assumptions-clause-step
unfolding state_of
returns-in-Assumptions-clause-step c =
    λ m h. c.end_assumptions.ensures.step m _ _ h ∙ ends-assumptions m _ _ _ _ _ _ _ _ _ c.in-Assumptions.is

pub returns-in-Assumptions-clause-placed : goal.returns-in-Assumptions-clause-placed
returns-in-Assumptions-clause-placed c = λ size p. c.end_assumptions.ensures.placed _ _ size p

pub returns-in-Trees-clause-step : goal.returns-in-Trees-clause-step
unfolding stepped phase_of
returns-in-Trees-clause-step c = λ m h. ap done (c.in_phase.ensures.step m _ _) ∙ ends-trees m _ _ _ _ _ _ _ c.in-Trees.is

pub returns-in-Trees-clause-placed : goal.returns-in-Trees-clause-placed
returns-in-Trees-clause-placed c = λ size p. c.in_phase.ensures.placed _ _ size p tt
