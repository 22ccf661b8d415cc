-- The function word_blocks meets its contract. The invariant: from here the blocks go as far as they went from the first. The measure is what is left
-- of the text. Assumes nothing.
use Prim.Native.Nat.{◌-◌}
use Rattle.lexer.proofs.ByteBlocks.{Passing}
use Rattle.lexer.specs.ByteBlocks.{is_plain}
use lib.ListN.{length}
use Rattle.lexer.proofs.scanning.word_blocks.Given as goal

abbrev pub invariant-loop-i : goal.invariant-loop-i
invariant-loop-i l = Passing is_plain 8 l.text l.from l.i

abbrev pub decreases-loop-i : goal.decreases-loop-i
decreases-loop-i l = length l.text - l.i
