-- The function `by_turn` meets its contract. Assumes nothing.
use Rattle.assumptions.proofs.ItemLaws.{stride-refused, stride-good}
use Rattle.block.specs.Outcome.{outcome}
use Rattle.block.specs.CharacterList.{item_turn, range}
use Rattle.assumptions.proofs.items.by_turn.Goals as goal

pub returns-then-stride-eq0 : goal.returns-then-stride-eq0
unfolding item_turn outcome
returns-then-stride-eq0 c = λ n p e. stride-refused n p _ e _ _ c.if-stride-eq0.true

pub returns : goal.returns
unfolding item_turn outcome range
returns c = λ n p e. stride-good n p _ e _ _ c.if-stride-eq0.false
