-- The function `count_names` meets its contract: a turn for each token, newlines passed over. The measure is what is left of them. Assumes nothing.
use Rattle.reading.proofs.FewNames.{Counting}
use Rattle.reading.proofs.label_lines.count_names.Given as goal

abbrev pub invariant-loop-j : goal.invariant-loop-j
invariant-loop-j l = Counting l.text l.starts l.i l.most l.count l.j
