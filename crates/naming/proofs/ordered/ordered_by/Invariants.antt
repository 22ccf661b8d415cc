-- The function `ordered_by` meets its contract: a turn holds the names of some rows against each other and all behind them. The measure is how many rows are left.
-- Assumes nothing.
use Rattle.naming.proofs.OrderedRows.{Holding}
use Rattle.naming.proofs.ordered.ordered_by.Given as goal

abbrev pub invariant-loop-left : goal.invariant-loop-left
invariant-loop-left l = Holding l.rows.source.now l.rows.characters.0 l.rows.at l.initial.left l.initial.places l.places l.here l.left

abbrev pub decreases-loop-left : goal.decreases-loop-left
decreases-loop-left l = l.left
