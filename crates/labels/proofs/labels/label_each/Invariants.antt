-- The function `label_each` meets its contract: a turn for each word, which labels the next character. Assumes nothing.
use Rattle.labels.proofs.EachLabelled.{Each}
use Rattle.labels.proofs.labels.label_each.Given as goal

abbrev pub invariant-loop-i : goal.invariant-loop-i
invariant-loop-i l = Each l.text l.room.at l.room.characters l.initial.work l.from l.to l.work l.k l.i
