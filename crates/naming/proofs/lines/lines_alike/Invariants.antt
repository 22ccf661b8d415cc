-- The function `lines_alike` meets its contract: a turn passes a byte of each line, the two of them alike. The measure is what is left of the bytes.
-- Assumes nothing.
use Prim.Native.Nat.{◌-◌}
use Rattle.naming.proofs.LikeLaws.{Comparing}
use lib.ListN.{length}
use Rattle.naming.proofs.lines.lines_alike.Given as goal

abbrev pub invariant-loop-first : goal.invariant-loop-first
invariant-loop-first l = Comparing l.source l.first l.second l.i l.j

abbrev pub decreases-loop-first : goal.decreases-loop-first
decreases-loop-first l = length l.source - l.i
