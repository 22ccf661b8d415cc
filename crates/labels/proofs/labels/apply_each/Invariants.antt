-- The function `apply_each` meets its contract: a turn for each command. Assumes nothing.
use Rattle.labels.proofs.LabelCommandLaws.{Applying}
use Rattle.labels.proofs.labels.apply_each.Given as goal

abbrev pub invariant-loop-c : goal.invariant-loop-c
invariant-loop-c l = Applying l.text l.room.at l.room.characters l.room.symbols l.fn.commands l.initial.work l.work l.c-index
