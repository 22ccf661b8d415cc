use Rattle.writing.proofs.RowsLaws.{rows_end, rows-turn}
use mathlib.Core.Path.{◌∙◌}
use Rattle.writing.proofs.rows.put_rows.Goals as goal

pub loop-preserved : goal.loop-preserved
loop-preserved c =
    (c.put_row-row.auto.buffer ∙ c.loop.invariant.0, rows-turn _ _ _ _ _ _ _ _ _ _ c.loop.invariant.1 c.loop-test.true c.put_row-row.ensures)

pub returns : goal.returns
returns c = rows_end _ _ _ _ _ _ _ _ _ _ c.loop.invariant.1 c.loop-test.false
