-- The function `pair_turn` meets its contract. Assumes nothing.
use Rattle.assumptions.proofs.ItemLaws.{told-stride}
use Rattle.block.specs.Outcome.{outcome}
use Rattle.block.specs.CharacterList.{item_turn, range}
use Rattle.lexer.specs.Base.{pick}
use mathlib.Core.Path.{sym, ◌∙◌}
use Rattle.assumptions.proofs.items.pair_turn.Goals as goal

pub returns-then-part : goal.returns-then-part
unfolding item_turn outcome pick
returns-then-part c = λ p e. rw (sym (told-stride _ p _ e) ∙ c.if-part.true)

pub returns : goal.returns
unfolding item_turn range pick
returns c = λ p e. rw (sym (told-stride _ p _ e) ∙ c.if-part.false) (c.next_item.ensures p e)
