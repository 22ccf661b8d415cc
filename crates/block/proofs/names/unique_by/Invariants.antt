-- The function `unique_by` meets its contract: a turn for each word, which is one name more. Assumes nothing.
use Rattle.block.proofs.KeptNames.{KeptNaming}
use Rattle.block.proofs.names.unique_by.Given as goal

abbrev pub invariant-loop-i : goal.invariant-loop-i
invariant-loop-i l = KeptNaming l.text l.initial.work l.from l.to l.table l.work l.i
