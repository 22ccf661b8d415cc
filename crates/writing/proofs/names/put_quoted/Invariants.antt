-- The function `put_quoted` meets its contract. The measure is what is left of the bytes. Assumes nothing.
use Prim.Native.Nat.{◌-◌, ◌≤◌}
use Rattle.writing.proofs.PutWalks.{Going}
use Rattle.writing.specs.QuotedNames.{RestQuoted}
use lib.ListN.{length}
use Rattle.writing.proofs.names.put_quoted.Given as goal

abbrev pub invariant-loop-i : goal.invariant-loop-i
invariant-loop-i l = (l.initial.i ≤ l.i) × Going l.initial.buffer (RestQuoted l.source l.initial.i l.initial.buffer l.initial.m) l.buffer (RestQuoted l.source l.i l.buffer l.m)

abbrev pub decreases-loop-i : goal.decreases-loop-i
decreases-loop-i l = length l.source - l.i
