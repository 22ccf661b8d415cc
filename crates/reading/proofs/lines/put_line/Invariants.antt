-- The function `put_line` meets its contract: a turn puts one word more or a whole set, up to the newline. The measure is what is left of the tokens. Assumes
-- nothing.
use Prim.Native.Nat.{◌-◌}
use Rattle.block.specs.Chunk.{plain}
use Rattle.reading.proofs.RowWalks.{LineLeft, Rowing}
use Rattle.reading.specs.RowWalk.{begun}
use mathlib.Core.List.{[]}
use Rattle.reading.proofs.lines.put_line.Given as goal

abbrev pub invariant-loop-i : goal.invariant-loop-i
invariant-loop-i l =
    Rowing l.codes l.initial.buffer (begun l.n l.started 0).row (λ f. LineLeft l.text l.starts l.to l.from f (plain [])) (LineLeft l.text l.starts l.to l.i) l.buffer l.set l.walk

abbrev pub decreases-loop-i : goal.decreases-loop-i
decreases-loop-i l = l.to - l.i
