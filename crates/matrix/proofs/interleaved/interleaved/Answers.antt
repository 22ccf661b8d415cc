-- The function `interleaved` meets its contract. Assumes nothing.
use Rattle.matrix.proofs.PageWalk.{read-cleared}
use Rattle.matrix.proofs.interleaved.interleaved.Goals as goal

pub returns : goal.returns
returns c = read-cleared c.requires c.name_table-table.ensures.0 c.interleaved_rows.ensures
