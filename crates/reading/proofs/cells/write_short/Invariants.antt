-- The function `write_short` meets its contract. A turn writes a blank and the byte of a cell, or ends. The measure is what is left of the run. Assumes
-- nothing.
use Rattle.reading.proofs.RunPieces.{Wrote}
use Rattle.reading.proofs.cells.write_short.Given as goal

abbrev pub invariant-loop-i : goal.invariant-loop-i
invariant-loop-i l = Wrote l.codes l.text l.from l.end l.initial.buffer l.n l.buffer l.at l.i
