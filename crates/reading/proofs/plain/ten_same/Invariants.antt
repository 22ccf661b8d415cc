-- The function `ten_same` meets its contract: a turn looks at one number more. The measure is how many are left. Assumes nothing.
use Prim.Native.Nat.{◌+◌, ◌-◌, ◌≤◌}
use Rattle.reading.specs.TenPlain.{all_same}
use mathlib.Core.Bool.{◌&&◌}
use mathlib.Core.Path.{◌≡◌}
use Rattle.reading.proofs.plain.ten_same.Given as goal

abbrev pub invariant-loop-i : goal.invariant-loop-i
invariant-loop-i l = (l.i ≤ 10) × (l.all && all_same l.work l.number (l.at + l.i) (10 - l.i) ≡ all_same l.work l.number l.at 10)
