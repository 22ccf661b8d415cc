-- The function `comment_end` meets its contract. A turn passes one bracket or another byte, and behind a closing bracket the blocks that cannot
-- hold the end; it keeps the end and that the depth is at most the bytes passed. The measure is what is left of the text. Assumes nothing.
use Prim.Native.Nat.{◌-◌}
use Rattle.lexer.proofs.EndTurns.{Commenting}
use lib.ListN.{length}
use Rattle.lexer.proofs.scanning.comment_end.Given as goal

abbrev pub invariant-loop-i : goal.invariant-loop-i
invariant-loop-i l = Commenting l.text l.mark l.depth l.i

abbrev pub decreases-loop-i : goal.decreases-loop-i
decreases-loop-i l = length l.text - l.i
