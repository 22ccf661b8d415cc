-- The function `found_line` meets its contract: a turn passes one slot. Assumes nothing.
use Rattle.naming.specs.Entries.{LineSought}
use Rattle.naming.proofs.names.found_line.Given as goal

abbrev pub invariant-loop-p : goal.invariant-loop-p
invariant-loop-p l = LineSought l.source l.at l.slots l.places l.count.0 l.p l.end
