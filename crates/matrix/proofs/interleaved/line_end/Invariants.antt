-- The function `line_end` meets its contract: a turn passes a token of the line. Assumes nothing.
use Rattle.matrix.proofs.LineLaws.{Within}
use Rattle.matrix.proofs.interleaved.line_end.Given as goal

abbrev pub invariant-loop-j : goal.invariant-loop-j
invariant-loop-j l = Within l.text l.work l.i l.to l.j
