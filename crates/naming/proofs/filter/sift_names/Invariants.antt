-- The function `sift_names` meets its contract: a turn sifts the name of one row. Assumes nothing.
use Prim.Native.Nat.{◌-◌}
use Rattle.naming.proofs.SiftedRows.{Sifting}
use Rattle.naming.proofs.filter.sift_names.Given as goal

abbrev pub invariant-loop-row : goal.invariant-loop-row
invariant-loop-row l =
    Sifting l.rows.source.now l.rows.characters.0 l.rows.at l._row-end l.table l.initial.words l.initial.slots l.initial.places l.words l.slots l.places l.here (l._row-end - l._row) l.count.0
