-- The function `eights` meets its contract: a turn passes eight cells more. The measure is what is left of the bytes. Assumes nothing.
use Prim.Native.Nat.{ℕ, ◌+◌, ◌-◌, ◌≤◌, ◌<◌}
use Rattle.judging.specs.CellModes.{Moves}
use Rattle.judging.specs.declared.cells.Mode.{Mode}
use lib.ListN.{length}
use Rattle.judging.proofs.cell_runs.eights.Given as goal

abbrev pub invariant-loop-at : goal.invariant-loop-at
invariant-loop-at l =
    (l.from ≤ l.at)
    × (l.at ≤ length l.source)
    × (l.many ≤ l.at)
    × ((count : ℕ) → l.top ≤ 57 → l.top < 48 + count
    → Moves l.source count (record { at = l.from; mode = Mode.Fresh; blanks = l.blanks; gap = l.gap }) (record { at = l.at; mode = Mode.Fresh; blanks = l.many; gap = l.any }))

abbrev pub decreases-loop-at : goal.decreases-loop-at
decreases-loop-at l = length l.source - l.at
