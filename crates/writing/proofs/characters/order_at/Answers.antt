-- The function `order_at` meets its contract. Assumes nothing.
use Rattle.writing.proofs.LinePlaces.{order-found}
use Rattle.writing.proofs.characters.order_at.Goals as goal

pub returns : goal.returns
returns c = order-found _ _ _ _ c.behind_line.ensures.found c.skip.ensures
