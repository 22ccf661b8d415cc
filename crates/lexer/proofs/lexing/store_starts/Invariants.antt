-- The function `store_starts` meets its contract. A turn passes over something or stores a token's start, and what is stored and the rest make up
-- the whole. The measure is what is left of the text. Assumes nothing.
use Prim.Native.Nat.{◌-◌}
use Rattle.lexer.proofs.Storing.{Storing}
use lib.ListN.{length}
use Rattle.lexer.proofs.lexing.store_starts.Given as goal

abbrev pub invariant-loop-i : goal.invariant-loop-i
invariant-loop-i l = Storing l.text l.initial.work l.work l.i l.n

abbrev pub decreases-loop-i : goal.decreases-loop-i
decreases-loop-i l = length l.text - l.i
