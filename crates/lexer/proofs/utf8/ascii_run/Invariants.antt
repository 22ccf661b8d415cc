-- The function ascii_run meets its contract. The invariant: from here the run of ASCII bytes ends where it ends from the first byte on. Assumes nothing.
use Rattle.lexer.proofs.AsciiRuns.{Running}
use Rattle.lexer.proofs.utf8.ascii_run.Given as goal

abbrev pub invariant-loop-i : goal.invariant-loop-i
invariant-loop-i l = Running l.text l.from l.i
