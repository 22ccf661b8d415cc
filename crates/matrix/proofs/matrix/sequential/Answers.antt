-- The function `sequential` meets its contract. Assumes nothing.
use Rattle.matrix.proofs.SequentialWalk.{read-cleared}
use Rattle.matrix.proofs.matrix.sequential.Goals as goal

pub returns : goal.returns
returns c = read-cleared c.requires c.name_table-table.ensures.0 c.sequential_rows.ensures
