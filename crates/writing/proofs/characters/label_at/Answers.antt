-- The function `label_at` meets its contract. Assumes nothing.
use Rattle.writing.proofs.LinePlaces.{label-found}
use Rattle.writing.proofs.characters.label_at.Goals as goal

pub returns : goal.returns
returns c = label-found _ _ _ _ _ c.skip-number.ensures c.behind_line.ensures.found c.skip.ensures
