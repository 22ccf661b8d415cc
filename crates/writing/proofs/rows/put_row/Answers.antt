-- The function `put_row` meets its contract. Assumes nothing.
use Rattle.writing.proofs.RowsLaws.{row_put}
use Rattle.writing.proofs.rows.put_row.Goals as goal

pub returns : goal.returns
returns c =
    row_put _ _ _ _ _ c.well_formed.0.0 c.further.ensures.0 c.put_quoted-name.ensures.put c.put-blank.ensures c.further-2.ensures.0 c.put_cells-cells.ensures c.put-end.ensures
