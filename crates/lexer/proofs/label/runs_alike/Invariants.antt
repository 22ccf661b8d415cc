-- The function `runs_alike` meets its contract. A turn passes one byte of each run that are alike, and keeps whether all are.
-- Assumes nothing.
use Rattle.lexer.proofs.RunsAlike.{ComparingRuns}
use Rattle.lexer.proofs.label.runs_alike.Given as goal

abbrev pub invariant-loop-i : goal.invariant-loop-i
invariant-loop-i l = ComparingRuns l.text l.a l.b l.count l.i
