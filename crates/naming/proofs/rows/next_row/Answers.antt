-- The function `next_row` meets its contract. Assumes nothing.
use Rattle.naming.proofs.RowLaws.{row-passed, row-outside}
use Rattle.naming.proofs.rows.next_row.Goals as goal

pub returns-then-end-source : goal.returns-then-end-source
returns-then-end-source c = row-passed _ _ _ c.cells_begin.ensures c.cells_end-end.ensures

pub returns : goal.returns
returns c = row-outside _ _ _ c.cells_begin.ensures c.cells_end-end.ensures c.if-end-source.false
