-- The function `put_rest` meets its contract. A turn puts a cell and those of one byte each that follow it. The measure is what is left of the run.
-- Assumes nothing.
use Prim.Native.Nat.{◌-◌, ◌≤◌}
use Rattle.reading.proofs.RunPieces.{RunLeft}
use lib.ListN.{length}
use mathlib.Core.Path.{◌≡◌}
use Rattle.reading.proofs.cells.put_rest.Given as goal

abbrev pub invariant-loop-i : goal.invariant-loop-i
invariant-loop-i l =
    (l.from ≤ l.i) × (l.i ≤ l.end) × (length l.buffer ≡ length l.initial.buffer) × RunLeft l.codes l.text l.from l.end l.initial.buffer l.initial.last l.buffer l.last l.i

abbrev pub decreases-loop-i : goal.decreases-loop-i
decreases-loop-i l = l.end - l.i
