-- The function `put_rows` meets its contract. A turn puts one row. The measure is how many are left. Assumes nothing.
use Rattle.reading.proofs.HeldRows.{RowsLeft}
use lib.ListN.{length}
use mathlib.Core.Path.{◌≡◌}
use Rattle.reading.proofs.taxa.put_rows.Given as goal

abbrev pub invariant-loop-row : goal.invariant-loop-row
invariant-loop-row l = (length l.buffer ≡ length l.initial.buffer) × RowsLeft l.text l.work l.codes l.matrix.count l.matrix.held l.matrix.interleave l.initial.buffer l.n l.buffer l.m l.row
