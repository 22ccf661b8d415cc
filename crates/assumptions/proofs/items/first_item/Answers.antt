-- The function `first_item` meets its contract. Assumes nothing.
use Rattle.assumptions.proofs.ItemLaws.{first-all, first-refused, first-number}
use Rattle.block.specs.Outcome.{outcome}
use Rattle.assumptions.proofs.items.first_item.Goals as goal

pub returns-then-part : goal.returns-then-part
unfolding outcome
returns-then-part c = λ p e. first-all _ p _ e c.if-part.true

pub returns-then-first-eq0 : goal.returns-then-first-eq0
unfolding outcome
returns-then-first-eq0 c = λ p e. first-refused _ p _ e c.if-part.false c.if-first-eq0.true

pub returns : goal.returns
unfolding outcome
returns c = λ p e. first-number _ p _ e c.if-part.false c.if-first-eq0.false
