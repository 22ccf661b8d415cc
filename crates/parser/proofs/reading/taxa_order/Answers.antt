-- The function `taxa_order` meets its contract. Assumes nothing.
use Rattle.parser.proofs.OrderLaws.{order-few, order-room, order-none, order-arranged}
use Rattle.parser.proofs.reading.taxa_order.Goals as goal

pub order_place-requires : goal.order_place-requires
order_place-requires c = order-few _ _ _ _ c.requires.0

pub arrange-requires : goal.arrange-requires
arrange-requires c = order-room _ _ _ _ c.requires.0 _ _ _ _ c.requires.1 c.in-Some.is c.order_place.ensures

pub returns-in-None : goal.returns-in-None
returns-in-None c = order-none _ _ _ _ _ _ _ c.in-None.is

pub returns-in-Some : goal.returns-in-Some
returns-in-Some c =
    order-arranged _ _ _ _ _ _ _ _ _ _ _ c.in-Some.is c.order_place.ensures (order-room _ _ _ _ c.requires.0 _ _ _ _ c.requires.1 c.in-Some.is c.order_place.ensures).0 _ c.arrange.ensures
