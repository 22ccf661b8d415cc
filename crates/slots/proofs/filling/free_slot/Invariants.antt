-- The function `free_slot` meets its contract: a turn passes one slot that is taken. Assumes nothing.
use Prim.Native.Nat.{◌≤◌, ◌<◌}
use Rattle.slots.specs.Filling.{Taken}
use Rattle.slots.proofs.filling.free_slot.Given as goal

abbrev pub invariant-loop-p : goal.invariant-loop-p
invariant-loop-p l = (l.from ≤ l.p) × (l.from < l.p → l.p ≤ l.end) × Taken l.work l.from l.p
