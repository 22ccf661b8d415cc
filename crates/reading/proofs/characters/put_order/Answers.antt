-- The function `put_order` meets its contract, type by type. Assumes nothing.
use Rattle.emit.proofs.PutLaws.{puts-as}
use Rattle.lexer.specs.Base.{bytes}
use Rattle.reading.proofs.CharacterPuts.{order-ordered, order-unordered}
use Rattle.reading.proofs.characters.put_order.Goals as goal

pub returns-in-Unordered : goal.returns-in-Unordered
unfolding bytes
returns-in-Unordered c = puts-as c.put_all.ensures (λ behind. order-unordered _ behind c.in-Unordered.is)

pub returns-in-Ordered : goal.returns-in-Ordered
unfolding bytes
returns-in-Ordered c = puts-as c.put_all-in-Ordered.ensures (λ behind. order-ordered _ behind c.in-Ordered.is)
