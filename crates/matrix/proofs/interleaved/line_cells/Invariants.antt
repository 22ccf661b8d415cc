-- The function `line_cells` meets its contract: a turn takes one token to the row. Assumes nothing.
use Rattle.matrix.proofs.PageShapes.{Growing}
use Rattle.matrix.proofs.interleaved.line_cells.Given as goal

abbrev pub invariant-loop-j : goal.invariant-loop-j
invariant-loop-j l = Growing l.text l.work l.codes l.i l.to l.row l.j
