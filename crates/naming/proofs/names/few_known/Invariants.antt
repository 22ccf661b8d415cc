-- The function `few_known` meets its contract: a turn looks for the name of one row. Assumes nothing.
use Prim.Native.Nat.{◌-◌}
use Rattle.naming.proofs.EnteredRows.{Looking}
use Rattle.naming.specs.Entries.{lines_at}
use lib.ListN.{take}
use Rattle.naming.proofs.names.few_known.Given as goal

abbrev pub invariant-loop-row : goal.invariant-loop-row
invariant-loop-row l =
    Looking l.rows.source.now l.rows.characters.0 l.rows.at l._row-end (lines_at l.rows.source.now (take l.count.0 l.places)) l.initial.room l.here (l._row-end - l._row) l.room
