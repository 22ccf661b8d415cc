-- The function `line_before` meets its contract: a turn passes a byte of each line, the two of them alike. The measure is what is left of the bytes.
-- Assumes nothing.
use Prim.Native.Nat.{◌-◌}
use Rattle.naming.proofs.BeforeLaws.{Ordering}
use lib.ListN.{length}
use Rattle.naming.proofs.ordered.line_before.Given as goal

abbrev pub invariant-loop-first : goal.invariant-loop-first
invariant-loop-first l = Ordering l.source l.first l.second l.i l.j

abbrev pub decreases-loop-first : goal.decreases-loop-first
decreases-loop-first l = length l.source - l.i
