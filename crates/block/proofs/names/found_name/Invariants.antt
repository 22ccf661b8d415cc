-- The function `found_name` meets its contract: a turn passes one slot, and behind the window the trie is asked.
-- Assumes nothing.
use Rattle.block.proofs.KeptNames.{Passing}
use Rattle.block.proofs.names.found_name.Given as goal

abbrev pub invariant-loop-p : goal.invariant-loop-p
invariant-loop-p l = Passing l.text l.work l.from l.i l.stop l.table.end l.slot l.p
