-- The function `short_end` meets its contract. The invariant: the cells so far are of one byte each. Assumes nothing.
use Rattle.reading.proofs.ShortLaws.{Shorts}
use Rattle.reading.proofs.cells.short_end.Given as goal

abbrev pub invariant-loop-i : goal.invariant-loop-i
invariant-loop-i l = Shorts l.codes l.text l.from l.i
