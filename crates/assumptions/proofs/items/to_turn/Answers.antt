-- The function `to_turn` meets its contract. Assumes nothing.
use Rattle.assumptions.proofs.ItemLaws.{last-refused, last-below, last-good}
use Rattle.block.specs.Outcome.{outcome}
use Rattle.block.specs.CharacterList.{item_turn}
use Rattle.assumptions.proofs.items.to_turn.Goals as goal

pub returns-then-last-eq0 : goal.returns-then-last-eq0
unfolding item_turn outcome
returns-then-last-eq0 c = λ n p e. last-refused n p _ e _ _ c.if-last-eq0.true

pub returns-then-last-first : goal.returns-then-last-first
unfolding item_turn outcome
returns-then-last-first c = λ n p e. last-below n p _ e _ _ c.if-last-eq0.false c.if-last-first.true

pub returns : goal.returns
unfolding item_turn outcome
returns c = λ n p e. last-good n p _ e _ _ c.if-last-eq0.false c.if-last-first.false
