-- The function `entry_end` meets its contract: by the place in the list. Assumes nothing.
use Rattle.block.specs.Judged.{judged}
use Rattle.block.specs.Labels.{entry_end}
use Rattle.labels.specs.LabelEntries.{entry_of}
use Rattle.std.proofs.Common.{inl, inr}
use Rattle.labels.proofs.entries.entry_end.Goals as goal

pub returns-in-First-clause-labelled : goal.returns-in-First-clause-labelled
unfolding judged entry_end entry_of
returns-in-First-clause-labelled c = λ what ws. rw c.in-First.is

pub returns-in-States-clause-labelled : goal.returns-in-States-clause-labelled
unfolding entry_end entry_of
returns-in-States-clause-labelled c = λ what ws. rw c.in-States.is c.entry_states.ensures.labelled

pub returns-in-Next-clause-labelled : goal.returns-in-Next-clause-labelled
unfolding judged entry_end entry_of
returns-in-Next-clause-labelled c =
    λ what ws. elim c.in-Next.is [ inl e ↦ rw e | inr e ↦ elim e [ inl (k, i, t) ↦ rw t | inr (k, i, t) ↦ rw t ] ]
