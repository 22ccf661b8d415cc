-- The function `arrange_tabled` meets its contract. Assumes nothing.
use Rattle.matrix.proofs.ArrangeWalk.{filled-size, filled-fits, filled_indexed, arranged-filled}
use native.Mathlib.Omega.{arith}
use Rattle.matrix.proofs.order.arrange_tabled.Goals as goal

pub arrange_names-requires : goal.arrange_names-requires
arrange_names-requires c =
    let room = c.requires in
    let e = c.name_table-table.ensures in
    let p = c.index_rows.ensures in
    ((room.0, room.1, omega (arith, room.2, filled-size room e.0 e.1 p), room.3), filled-fits room e.0 e.1 p, filled_indexed room e.0 e.1 p)

pub returns : goal.returns
returns c =
    arranged-filled c.requires c.name_table-table.ensures.0 c.name_table-table.ensures.1 c.index_rows.ensures c.arrange_names.ensures
