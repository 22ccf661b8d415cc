-- The function `put_whole` meets its contract. A turn stores one byte more of the list. Assumes nothing.
use Prim.Native.Nat.{◌+◌, ◌≤◌}
use Rattle.emit.specs.Puts.{Puts}
use lib.ListN.{length, take}
use mathlib.Core.List.{◌++◌}
use Rattle.emit.proofs.put_whole.Given as goal

abbrev pub invariant-loop-i : goal.invariant-loop-i
invariant-loop-i l = (l.i ≤ length l.bytes) × Puts l.initial.buffer l.n (λ behind. take l.i l.bytes ++ behind) l.buffer (l.n + l.i)
