-- The function `row_lines` meets its contract: what is judged of the rows that are left is judged of all. Assumes nothing.
use Prim.Native.Nat.{◌-◌}
use Rattle.judging.proofs.RowsTold.{RowsLeft}
use Rattle.judging.proofs.rows.row_lines.Given as goal

abbrev pub invariant-loop-row : goal.invariant-loop-row
invariant-loop-row l = RowsLeft l.source l.i l.characters l.states l._row-end l.at l.gap (l._row-end - l._row)
