-- The function `single_turn` meets its contract. Assumes nothing.
use Rattle.assumptions.proofs.ItemLaws.{told-dash}
use Rattle.block.specs.Outcome.{outcome}
use Rattle.block.specs.CharacterList.{item_turn}
use Rattle.lexer.specs.Base.{pick}
use mathlib.Core.Path.{sym, ◌∙◌}
use Rattle.assumptions.proofs.items.single_turn.Goals as goal

pub returns-then-all : goal.returns-then-all
unfolding item_turn outcome pick
returns-then-all c = λ p e. rw (sym (told-dash _ p _ e) ∙ c.if-part.true, c.if-all.true)

pub returns-then-part : goal.returns-then-part
unfolding item_turn outcome pick
returns-then-part c = λ p e. rw (sym (told-dash _ p _ e) ∙ c.if-part.true, c.if-all.false)

pub returns : goal.returns
unfolding item_turn pick
returns c = λ p e. rw (sym (told-dash _ p _ e) ∙ c.if-part.false) (c.pair_turn.ensures p e)
