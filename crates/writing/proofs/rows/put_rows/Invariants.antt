-- The function `put_rows` meets its contract. A turn puts a row. Assumes nothing.
use Rattle.writing.proofs.RowsLaws.{Rows}
use lib.ListN.{length}
use mathlib.Core.Path.{◌≡◌}
use Rattle.writing.proofs.rows.put_rows.Given as goal

abbrev pub invariant-loop : goal.invariant-loop
invariant-loop l = (length l.buffer ≡ length l.initial.buffer) × Rows l.source l.signs l.end l.from l.initial.buffer l.n l.buffer l.at l.m l.counter
