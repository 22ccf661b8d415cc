-- The function `line_hash` meets its contract: a turn takes one byte of the line. The measure is what is left of the bytes. Assumes nothing.
use Prim.Native.Nat.{◌-◌}
use Rattle.naming.proofs.EntryLaws.{Hashing}
use lib.ListN.{length}
use Rattle.naming.proofs.names.line_hash.Given as goal

abbrev pub invariant-loop-at : goal.invariant-loop-at
invariant-loop-at l = Hashing l.source l.at l.i l.h

abbrev pub decreases-loop-at : goal.decreases-loop-at
decreases-loop-at l = length l.source - l.i
