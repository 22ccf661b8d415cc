-- The function `label_entries` meets its contract: a turn for each word. Assumes nothing.
use Rattle.block.specs.Labels as labels
use Rattle.block.specs.Outcome.{fold}
use Rattle.labels.proofs.EntriesWalk.{entries_turn, Entering}
use Rattle.block.specs.Commands.{words}
use Rattle.labels.specs.LabelEntries.{command_of}
use Rattle.lexer.specs.Stored.{range}
use Rattle.labels.specs.LabelSlots.{labels_held}
use Rattle.labels.proofs.entries.label_entries.Given as goal

abbrev pub invariant-loop-i : goal.invariant-loop-i
invariant-loop-i l =
    let c = command_of l.c.what l.c.head (words (range l.text l.initial.work l.from l.c.to)) in
    let r = l.room in
    Entering l.text r.at r.characters l.initial.work r.symbols c l.c.to (fold (entries_turn r.symbols c) (labels.at (labels_held l.text l.initial.work r.at r.characters) labels.first) c.words) l.work l.entry l.i
