-- The function `put_told` meets its contract: a turn puts a word or a whole set, or ends. The measure is what is left of the tokens. Assumes nothing.
use Prim.Native.Nat.{◌-◌}
use Rattle.reading.specs.RowWalk.{ToldPut}
use Rattle.reading.proofs.cells.put_told.Given as goal

abbrev pub invariant-loop-i : goal.invariant-loop-i
invariant-loop-i l = ToldPut l.codes l.text l.starts l.to l.initial.buffer l.initial.last l.from l.buffer l.last l.i

abbrev pub decreases-loop-i : goal.decreases-loop-i
decreases-loop-i l = l.to - l.i
