-- The function `enter_names` meets its contract: a turn enters the name of one row. Assumes nothing.
use Rattle.naming.proofs.EnteredRows.{Entering}
use Rattle.naming.proofs.names.enter_names.Given as goal

abbrev pub invariant-loop-count : goal.invariant-loop-count
invariant-loop-count l = Entering l.rows.source.now l.rows.characters.0 l.rows.at l.count-end l.table l.initial.slots l.initial.places l.slots l.places l.here l.count
