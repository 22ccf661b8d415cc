-- The function `find_cells` meets its contract: a turn compares the name of one row. Assumes nothing.
use Prim.Native.Nat.{◌-◌}
use Rattle.lookup.proofs.FindLaws.{Seeking}
use Rattle.lookup.proofs.find.find_cells.Given as goal

abbrev pub invariant-loop : goal.invariant-loop
invariant-loop l = Seeking l.source l.at l.end l.fn.characters.0 l.name l.here (l.end - l.counter)
