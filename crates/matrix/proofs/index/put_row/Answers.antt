-- The function `put_row` meets its contract. Assumes nothing.
use Rattle.matrix.proofs.IndexLaws.{row_put, row-stored}
use Rattle.matrix.proofs.index.put_row.Goals as goal

pub returns-then-new : goal.returns-then-new
returns-then-new c = row_put _ _ _ _ _ _ c.requires _ c.insert_row.ensures _

pub returns-else-new : goal.returns-else-new
returns-else-new c = row-stored _ _ _ _ _ _ c.requires _ c.if-new.false
