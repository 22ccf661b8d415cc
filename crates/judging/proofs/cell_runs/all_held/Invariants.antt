-- The function `all_held` meets its contract: a turn compares one byte more. Assumes nothing.
use Prim.Native.Nat.{◌≤◌}
use Rattle.judging.specs.CellRuns.{AllHeld}
use mathlib.Core.Bool.{true}
use mathlib.Core.Path.{◌≡◌}
use Rattle.judging.proofs.cell_runs.all_held.Given as goal

abbrev pub invariant-loop-i : goal.invariant-loop-i
invariant-loop-i l = (l.i ≤ 16) × (l.good ≡ true → AllHeld l.source l.at l.low l.high l.one l.other l.i)
