-- The function `insert_names` meets its contract: a turn inserts the name of one row. Assumes nothing.
use Rattle.naming.proofs.OrderedRows.{Inserting}
use Rattle.naming.proofs.ordered.insert_names.Given as goal

abbrev pub invariant-loop-count : goal.invariant-loop-count
invariant-loop-count l = Inserting l.rows.source.now l.rows.characters.0 l.rows.at l.count-end l.initial.places l.places l.here l.count
