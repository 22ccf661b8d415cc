-- The function `order_line` meets its contract: neither of its words begins with the other. Assumes nothing.
use Rattle.lexer.specs.Base.{bytes}
use Rattle.judging.proofs.OpeningTold.{order-told}
use Rattle.judging.proofs.characters.order_line.Goals as goal

pub returns : goal.returns
unfolding bytes
returns c = order-told _ _ _ c.two_words.ensures
