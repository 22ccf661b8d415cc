-- The function `interleaved_rows` meets its contract. A turn judges a line, stores it, and keeps what all comes to. The measure is what is left of the
-- tokens. Assumes nothing.
use Prim.Native.Nat.{◌-◌}
use Rattle.matrix.proofs.PageWalk.{Paging}
use Rattle.matrix.proofs.interleaved.interleaved_rows.Given as goal

abbrev pub invariant-loop-i : goal.invariant-loop-i
invariant-loop-i l = Paging l.text l.codes l.initial.work l.at l.from l.to l.shape.taxa.0 l.shape.characters.0 l.shape.head l.table l.work l.count l.page l.i

abbrev pub decreases-loop-i : goal.decreases-loop-i
decreases-loop-i l = l.to - l.i
