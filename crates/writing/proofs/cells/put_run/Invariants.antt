-- The function `put_run` meets its contract. A turn puts a cell of one byte. The measure is what is left of the bytes. Assumes nothing.
use Prim.Native.Nat.{◌-◌, ◌≤◌}
use Rattle.writing.specs.CellsPut.{RunPut}
use lib.ListN.{length}
use mathlib.Core.Path.{◌≡◌}
use Rattle.writing.proofs.cells.put_run.Given as goal

abbrev pub invariant-loop-s : goal.invariant-loop-s
invariant-loop-s l = (l.from ≤ l.at) × (length l.buffer ≡ length l.initial.buffer) × RunPut l.source l.signs l.from l.initial.buffer l.n l.buffer (record { at = l.at; n = l.m })

abbrev pub decreases-loop-s : goal.decreases-loop-s
decreases-loop-s l = length l.source - l.at
