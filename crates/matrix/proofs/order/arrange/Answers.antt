-- The function `arrange` meets its contract: names in the order of the rows are arranged at once, others by a table. Assumes nothing.
use Rattle.matrix.proofs.ArrangeWalk.{arranged-behind}
use Rattle.matrix.proofs.order.arrange.Goals as goal

pub returns-then-in_order : goal.returns-then-in_order
returns-then-in_order c = c.in_order.ensures.good c.if-in_order.true _

pub returns : goal.returns
returns c =
    let t = c.in_order.ensures in
    let room = c.requires in
    arranged-behind (room.0, room.1) t.size t.kept c.arrange_tabled.ensures
