-- The function `list_end` meets its contract. Assumes nothing.
use Rattle.assumptions.proofs.ListTyped.{end_none, end-last, end-over}
use Rattle.block.specs.CharacterList.{range}
use Rattle.assumptions.proofs.characters.list_end.Goals as goal

pub returns-in-Number-clause-answer : goal.returns-in-Number-clause-answer
returns-in-Number-clause-answer c = λ rs ts g. rw c.in-Number.is (end_none _ _ rs ts _ _ g _ (c.judge_twice.ensures _))

pub returns-in-Single-clause-answer : goal.returns-in-Single-clause-answer
unfolding range
returns-in-Single-clause-answer c = λ rs ts g. end-last _ _ rs ts _ _ g _ _ _ _ _ c.type_next.ensures.typed (c.judge_twice-in-Single.ensures _) _ c.in-Single.is

pub returns-in-To-clause-answer : goal.returns-in-To-clause-answer
returns-in-To-clause-answer c = λ rs ts g. end-over _ _ rs ts _ _ g _ _ c.in-To.is

pub returns-in-To-2-clause-answer : goal.returns-in-To-2-clause-answer
returns-in-To-2-clause-answer c = λ rs ts g. end-over _ _ rs ts _ _ g _ _ c.in-To.is
