-- The function `put_declared` meets its contract. A turn puts the row of one name. The measure is how many are left. Assumes nothing.
use Rattle.reading.proofs.HeldRows.{WordsLeft}
use lib.ListN.{length}
use mathlib.Core.Path.{◌≡◌}
use Rattle.reading.proofs.taxa.put_declared.Given as goal

abbrev pub invariant-loop-k : goal.invariant-loop-k
invariant-loop-k l =
    (length l.buffer ≡ length l.initial.buffer) × WordsLeft l.text l.work l.codes l.matrix.count l.matrix.held l.matrix.interleave l.initial.buffer l.n l.buffer l.m l.from l.to l.order l.i l.k
