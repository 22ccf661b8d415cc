-- The function `entry_number` meets its contract: by the command. Assumes nothing.
use Rattle.block.specs.Labels.{entry_number}
use Rattle.labels.specs.LabelEntries.{entered, entry_of}
use Rattle.lexer.specs.Stored.{word_of}
use Rattle.std.proofs.Common.{inl, inr}
use Rattle.labels.proofs.entries.entry_number.Goals as goal

pub returns-in-StateLabels-clause-entered : goal.returns-in-StateLabels-clause-entered
unfolding entry_number word_of
returns-in-StateLabels-clause-entered c = λ text. rw c.in-StateLabels.is (c.begin_states.ensures.entered text)

pub returns-in-CharLabels-clause-entered : goal.returns-in-CharLabels-clause-entered
unfolding entered entry_of entry_number word_of
returns-in-CharLabels-clause-entered c = λ text. elim c.in-CharLabels.is [ inl e ↦ rw e | inr e ↦ rw e ]
