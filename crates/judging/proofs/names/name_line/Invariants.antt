-- The function `name_line` meets its contract. The invariant: what is judged from here on, of what is open, is judged of the name from its first byte
-- on. The measure is what is left of the bytes. Assumes nothing.
use Prim.Native.Nat.{◌-◌}
use Rattle.block.specs.Sound.{sound_name}
use Rattle.judging.proofs.NameJudged.{Walking}
use lib.ListN.{length}
use Rattle.judging.proofs.names.name_line.Given as goal

abbrev pub invariant-loop-at : goal.invariant-loop-at
invariant-loop-at l = Walking l.source l.i sound_name l.s l.at

abbrev pub decreases-loop-at : goal.decreases-loop-at
decreases-loop-at l = length l.source - l.at
