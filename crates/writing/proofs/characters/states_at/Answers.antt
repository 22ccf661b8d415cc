-- The function `states_at` meets its contract. Assumes nothing.
use Rattle.writing.proofs.LinePlaces.{states-found}
use Rattle.writing.proofs.characters.states_at.Goals as goal

pub returns : goal.returns
returns c = states-found _ _ _ _ _ c.behind_line.ensures.found c.skip-count.ensures c.behind_line-2.ensures.found
