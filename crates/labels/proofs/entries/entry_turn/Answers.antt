-- The function `entry_turn` meets its contract: by the place in the list. Assumes nothing.
use Rattle.block.specs.Labels.{entry_turn}
use Rattle.labels.specs.LabelEntries.{entry_of}
use Rattle.std.proofs.Common.{inl, inr}
use Rattle.labels.proofs.entries.entry_turn.Goals as goal

pub returns-in-First-clause-entered : goal.returns-in-First-clause-entered
unfolding entry_turn entry_of
returns-in-First-clause-entered c =
    λ ws. elim c.in-First.is [ inl e ↦ rw e (c.entry_begins.ensures.entered ws) | inr e ↦ rw e (c.entry_begins.ensures.entered ws) ]

pub returns-in-Numbered-clause-entered : goal.returns-in-Numbered-clause-entered
unfolding entry_of
returns-in-Numbered-clause-entered c = λ ws. rw c.in-Numbered.is (c.character_turn.ensures.entered _ _)

pub returns-in-Labelled-clause-entered : goal.returns-in-Labelled-clause-entered
unfolding entry_of
returns-in-Labelled-clause-entered c = λ ws. rw c.in-Labelled.is (c.character_turn-in-Labelled.ensures.entered _ _)

pub returns-in-States-clause-entered : goal.returns-in-States-clause-entered
unfolding entry_of
returns-in-States-clause-entered c = λ ws. rw c.in-States.is (c.states_turn.ensures.entered _)
