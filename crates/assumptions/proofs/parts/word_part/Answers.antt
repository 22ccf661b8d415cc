-- The function `word_part` meets its contract. Assumes nothing.
use Rattle.assumptions.proofs.PartLaws.{parted-dash, parted-plain, parted-end}
use Rattle.lexer.proofs.NextBytes.{yielded}
use Rattle.lexer.specs.Base.{pick}
use Rattle.assumptions.proofs.parts.word_part.Goals as goal

pub returns-then-b-eq45 : goal.returns-then-b-eq45
returns-then-b-eq45 c = λ w i h a. parted-dash _ _ w _ _ _ i h a _ _ ((yielded _ _ _ c.next_byte.ensures).byte _ _ c.in_ok-b.was) c.if-b-eq45.true

pub returns : goal.returns
unfolding pick
returns c = λ w i h a. parted-plain _ _ w _ _ _ i h a _ _ ((yielded _ _ _ c.next_byte.ensures).byte _ _ c.in_ok-b.was) c.if-b-eq45.false _ _ _ c.part_number-n.ensures (rw c.part_ended.ensures at c.character.ensures) c.part_end.ensures

pub returns-in_err-b : goal.returns-in_err-b
returns-in_err-b c = λ w i h a. rw c.from_residual.ensures (parted-end _ _ w _ ((yielded _ _ _ c.next_byte.ensures).end c.in_err-b.was))
