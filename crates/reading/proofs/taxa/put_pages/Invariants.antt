-- The function `put_pages` meets its contract. A turn puts the cells of the row's line on one page more. The measure is how many lines are left.
-- Assumes nothing.
use Prim.Native.Nat.{◌-◌, ◌≤◌}
use Rattle.emit.specs.Puts.{last_place}
use Rattle.reading.proofs.LinesWalk.{Lining}
use lib.ListN.{length}
use mathlib.Core.Path.{◌≡◌}
use Rattle.reading.proofs.taxa.put_pages.Given as goal

abbrev pub invariant-loop-at : goal.invariant-loop-at
invariant-loop-at l =
    (length l.buffer ≡ length l.initial.buffer) × (l.m ≤ last_place) × Lining l.text l.work l.codes l.matrix.count l.matrix.held.lines l.matrix.held.taxa l.matrix.held.to l.first l.initial.buffer l.n l.buffer l.m l.at

abbrev pub decreases-loop-at : goal.decreases-loop-at
decreases-loop-at l = l.matrix.held.lines - l.at
