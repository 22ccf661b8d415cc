-- The function `eight_gaps` meets its contract: a turn looks at one cell more. Assumes nothing.
use Prim.Native.Nat.{◌≤◌}
use Rattle.judging.specs.CellRuns.{gaps}
use mathlib.Core.Path.{◌≡◌}
use Rattle.judging.proofs.cell_runs.eight_gaps.Given as goal

abbrev pub invariant-loop-i : goal.invariant-loop-i
invariant-loop-i l = (l.i ≤ 8) × (l.gap ≡ gaps l.source l.at l.i)
