-- The function `line_end` meets its contract: a turn passes one byte of the line. The measure is what is left of the bytes. Assumes nothing.
use Prim.Native.Nat.{◌-◌}
use Rattle.naming.proofs.LineLaws.{Ending}
use lib.ListN.{length}
use Rattle.naming.proofs.lines.line_end.Given as goal

abbrev pub invariant-loop-at : goal.invariant-loop-at
invariant-loop-at l = Ending l.source l.from l.at

abbrev pub decreases-loop-at : goal.decreases-loop-at
decreases-loop-at l = length l.source - l.at
