-- The function `finish` meets its contract. Assumes nothing.
use Rattle.block.specs.Blocks.{finish}
use Rattle.commands.specs.MatrixHeld.{held}
use Rattle.commands.specs.StateHeld.{state_of}
use Rattle.commands.specs.Stepping.{answered, state_held}
use Rattle.parser.proofs.FinishLaws.{open-taxa, open-data, open-assumptions, open-trees, no-matrix, read-matrix, answers-from, placed-fits}
use Rattle.parser.specs.ParsedHeld.{parsed_held}
use mathlib.Core.Path.{refl}
use Rattle.parser.proofs.finish.finish.Goals as goal

pub returns-in-None-clause-answer : goal.returns-in-None-clause-answer
unfolding parsed_held finish state_held state_of held
returns-in-None-clause-answer c = answered (no-matrix _ _ _ _ _ _ _ _ c.in-Outside.is refl c.in-None.is)

pub returns-in-Some-clause-answer : goal.returns-in-Some-clause-answer
unfolding parsed_held finish state_held state_of held
returns-in-Some-clause-answer c =
    answers-from _ _ _ (λ p. placed-fits c.args.text.now c.args.work.now _ _ _ c.requires c.in-Some.is p.matrix)
    (read-matrix _ _ _ _ _ _ _ _ _ c.in-Outside.is refl c.in-Some.is) (c.finish_matrix.ensures.answer _)

pub returns-in-Taxa-clause-answer : goal.returns-in-Taxa-clause-answer
unfolding parsed_held finish state_held state_of held
returns-in-Taxa-clause-answer c = answered (open-taxa _ _ _ _ _ _ _ _ _ _ _ c.in-Taxa.is)

pub returns-in-Data-clause-answer : goal.returns-in-Data-clause-answer
unfolding parsed_held finish state_held state_of held
returns-in-Data-clause-answer c = answered (open-data _ _ _ _ _ _ _ _ _ c.in-Data.is)

pub returns-in-Assumptions-clause-answer : goal.returns-in-Assumptions-clause-answer
unfolding parsed_held finish state_held state_of held
returns-in-Assumptions-clause-answer c = answered (open-assumptions _ _ _ _ _ _ _ _ _ _ _ c.in-Assumptions.is)

pub returns-in-Trees-clause-answer : goal.returns-in-Trees-clause-answer
unfolding parsed_held finish state_held state_of held
returns-in-Trees-clause-answer c = answered (open-trees _ _ _ _ _ _ _ _ _ c.in-Trees.is)
