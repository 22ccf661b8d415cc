-- The function `put_row` meets its contract: no row, a row of pages, or a sequential row. Assumes nothing.
use Prim.Native.Nat.{◌+◌}
use Rattle.reading.proofs.HeldRows.{first-few, line-few, lines-room, row-none, row-pages, row-sequence, tokens-taken}
use mathlib.Core.Path.{refl, ap}
use native.Mathlib.Omega.{arith}
use Rattle.reading.proofs.taxa.put_row.Goals as goal

pub returns-then-row_count-row : goal.returns-then-row_count-row
returns-then-row_count-row c =
    record { kept = refl; put = row-none _ _ _ _ c.args.matrix.held c.requires _ _ _ c.row_count.ensures c.if-row_count-row.true }

pub first_line-first-requires : goal.first_line-first-requires
first_line-first-requires c = first-few _ _ _ _ _ c.requires _ _ _ c.row_count.ensures c.if-row_count-row.false

pub put_pages-requires : goal.put_pages-requires
put_pages-requires c =
    lines-room _ _ _ _ _ c.requires _ _ _ c.row_count.ensures c.if-row_count-row.false _ c.first_line-first.ensures c.if-matrix.true

pub returns-then-matrix : goal.returns-then-matrix
returns-then-matrix c =
    record {
      kept = c.put_pages.ensures.kept;
      put = row-pages _ _ _ _ c.args.matrix.held c.requires _ _ _ c.row_count.ensures c.if-row_count-row.false _ c.first_line-first.ensures c.if-matrix.true c.put_pages.ensures.put;
    }

pub overflow_add-matrix : goal.overflow_add-matrix
overflow_add-matrix c =
    omega (arith, line-few _ _ _ _ _ c.requires _ _ _ c.row_count.ensures c.if-row_count-row.false _ c.first_line-first.ensures)

pub slice_bounds-put_sequence-end : goal.slice_bounds-put_sequence-end
slice_bounds-put_sequence-end c = tokens-taken _ _ _ _ _ c.requires

pub returns : goal.returns
returns c =
    record {
      kept = c.put_sequence.ensures.kept;
      put = row-sequence _ _ _ _ c.args.matrix.held c.requires _ _ _ c.row_count.ensures c.if-row_count-row.false _ c.first_line-first.ensures _ c.if-matrix.false (ap (λ x. x + 1) c.start_of-from.ensures) c.put_sequence.ensures.put;
    }
