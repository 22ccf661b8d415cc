-- The function comment_blocks meets its contract. The invariant: from here, with as many comments open, the blocks go as far as they went from the
-- first. The measure is what is left of the text. Assumes nothing.
use Prim.Native.Nat.{◌-◌}
use Rattle.lexer.proofs.CommentBlocks.{Passing}
use lib.ListN.{length}
use Rattle.lexer.proofs.scanning.comment_blocks.Given as goal

abbrev pub invariant-loop-i : goal.invariant-loop-i
invariant-loop-i l = Passing l.text l.depth l.from l.deep l.i

abbrev pub decreases-loop-i : goal.decreases-loop-i
decreases-loop-i l = length l.text - l.i
