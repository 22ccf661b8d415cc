-- The function `line_found` meets its contract. Assumes nothing.
use Rattle.naming.proofs.OrderLaws.{found_none, found-told}
use Rattle.naming.proofs.ordered.line_found.Goals as goal

pub returns-then-count-next : goal.returns-then-count-next
returns-then-count-next c = found_none _ _ _ _ c.requires.0 c.requires.1 _ c.requires.2 c.if-count-next.true

pub returns : goal.returns
returns c =
    found-told _ _ _ _ c.requires.0 c.requires.1 _ c.requires.2 c.if-count-next.false _ c.lines_alike.ensures
