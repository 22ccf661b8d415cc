-- The function `put_sequence` meets its contract: a turn passes a newline, or puts a word or a whole set, stops where the row is full, and puts those that
-- follow and are told at once. The measure is what is left of the tokens. Assumes nothing.
use Prim.Native.Nat.{◌-◌}
use Rattle.block.specs.Chunk.{plain}
use Rattle.reading.proofs.RowWalks.{Rowing, WordsLeft}
use Rattle.reading.specs.RowWalk.{begun}
use mathlib.Core.Bool.{false}
use mathlib.Core.List.{[]}
use Rattle.reading.proofs.lines.put_sequence.Given as goal

abbrev pub invariant-loop-i : goal.invariant-loop-i
invariant-loop-i l =
    Rowing l.codes l.initial.buffer (begun l.n false l.characters).row (λ f. WordsLeft l.text l.starts l.to l.characters l.from f (plain [])) (WordsLeft l.text l.starts l.to l.characters l.i) l.buffer l.set l.walk

abbrev pub decreases-loop-i : goal.decreases-loop-i
decreases-loop-i l = l.to - l.i
