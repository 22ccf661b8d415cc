-- The function `count_words` meets its contract: a turn for each token, newlines passed over. Assumes nothing.
use Rattle.block.proofs.WordCounts.{Counting}
use Rattle.block.proofs.words.count_words.Given as goal

abbrev pub invariant-loop-i : goal.invariant-loop-i
invariant-loop-i l = Counting l.text l.work l.from l.to l.count l.i
