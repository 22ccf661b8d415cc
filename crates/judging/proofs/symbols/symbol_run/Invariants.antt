-- The function `symbol_run` meets its contract: the run from here on is the rest of the run. Assumes nothing.
use lib.ListN.{length}
use Prim.Native.Nat.{◌-◌}
use Rattle.judging.proofs.SymbolRuns.{Running}
use Rattle.judging.proofs.symbols.symbol_run.Given as goal

abbrev pub invariant-loop-at : goal.invariant-loop-at
invariant-loop-at l = Running l.source l.from l.at

abbrev pub decreases-loop-at : goal.decreases-loop-at
decreases-loop-at l = length l.source - l.at
