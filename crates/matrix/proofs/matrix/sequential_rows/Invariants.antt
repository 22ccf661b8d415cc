-- The function `sequential_rows` meets its contract. A turn passes a newline, or judges a word or a set and stores a full row, and keeps what all comes
-- to. The measure is what is left of the tokens. Assumes nothing.
use Prim.Native.Nat.{◌-◌}
use Rattle.matrix.proofs.SequentialWalk.{Sequencing}
use Rattle.matrix.proofs.matrix.sequential_rows.Given as goal

abbrev pub invariant-loop-i : goal.invariant-loop-i
invariant-loop-i l = Sequencing l.text l.codes l.initial.work l.at l.from l.to l.shape.taxa.0 l.shape.characters.0 l.shape.head l.table l.work l.count l.line l.i

abbrev pub decreases-loop-i : goal.decreases-loop-i
decreases-loop-i l = l.to - l.i
