-- The function `put_cells` meets its contract. A turn puts cells of one byte each, and one cell more. The measure is what is left of the bytes. Assumes nothing.
use Prim.Native.Nat.{◌-◌}
use Rattle.writing.specs.CellsPut.{RunPut}
use lib.ListN.{length}
use mathlib.Core.Path.{◌≡◌}
use Rattle.writing.proofs.cells.put_cells.Given as goal

abbrev pub invariant-loop-at : goal.invariant-loop-at
invariant-loop-at l = (length l.buffer ≡ length l.initial.buffer) × RunPut l.source l.signs l.from l.initial.buffer l.n l.buffer (record { at = l.at; n = l.m })

abbrev pub decreases-loop-at : goal.decreases-loop-at
decreases-loop-at l = length l.source - l.at
