-- The function `number_turn` meets its contract. Assumes nothing.
use Rattle.std.proofs.lemmas.Result.{err_from_is_err_and}
use Rattle.block.specs.Outcome.{outcome, then}
use Rattle.block.specs.CharacterList.{item_turn}
use Rattle.assumptions.proofs.items.number_turn.Goals as goal

pub returns-in_err-first_item : goal.returns-in_err-first_item
unfolding item_turn outcome then
returns-in_err-first_item c = λ p e.
    let r = err_from_is_err_and c.from_residual.result c.from_residual.ensures.1 in
    rw (r.1, r.2, ← c.in_err-first_item.ensures p e)

pub returns : goal.returns
unfolding item_turn outcome then
returns c = λ p e. rw (← c.in_ok-first_item.ensures p e)
