-- The function `in_order` meets its contract: a turn stores the number of one row, which has the declared name. Assumes nothing.
use Prim.Native.Nat.{ℕ, ◌+◌}
use Rattle.matrix.proofs.ArrangeWalk.{Arranging}
use Rattle.matrix.proofs.order.in_order.Given as goal

abbrev pub invariant-loop-i : goal.invariant-loop-i
invariant-loop-i l = (head : ℕ) → Arranging l.text l.initial.work l.lines l.rows l.from l.to l.at head l.work l.i (l.at + l.k)
