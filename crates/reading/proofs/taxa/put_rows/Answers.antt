use Rattle.reading.proofs.HeldRows.{first-few, line-few, rows_end, rows-turn}
use mathlib.Core.Path.{◌∙◌}
use native.Mathlib.Omega.{arith}
use Rattle.reading.proofs.taxa.put_rows.Goals as goal

pub first_line-first-requires : goal.first_line-first-requires
first_line-first-requires c =
    first-few _ _ _ _ _ c.requires _ _ _ c.row_count-rows.ensures c.loop-row-test.true

pub overflow_add-matrix : goal.overflow_add-matrix
overflow_add-matrix c =
    omega (arith, line-few _ _ _ _ _ c.requires _ _ _ c.row_count-rows.ensures c.loop-row-test.true _ c.first_line-first.ensures)

pub loop-row-preserved : goal.loop-row-preserved
loop-row-preserved c = (
  c.put_taxon-m.ensures.kept ∙ c.loop-row.invariant.0,
  rows-turn _ _ _ _ c.args.matrix.held c.requires _ _ _ _ _ c.row_count-rows.ensures c.loop-row-test.true _ _ c.first_line-first.ensures c.start_of-i.ensures c.loop-row.invariant.1 c.put_taxon-m.ensures.put,
)

pub returns : goal.returns
returns c =
    record { kept = c.loop-row.invariant.0; put = rows_end _ _ _ _ c.args.matrix.held c.requires _ _ _ _ _ c.row_count-rows.ensures c.loop-row-test.false c.loop-row.invariant.1 }
