-- The function `label_one` meets its contract: one test after the other, and a store. Assumes nothing.
use Rattle.block.specs.Judged.{judged}
use Rattle.labels.proofs.LabelTurns.{one-twice, one-nameless, one-new}
use mathlib.Core.Path.{sym, ◌∙◌}
use Rattle.labels.proofs.labels.label_one.Goals as goal

pub returns-then-slot_given-clause-labelled : goal.returns-then-slot_given-clause-labelled
unfolding judged
returns-then-slot_given-clause-labelled c =
    one-twice _ _ _ _ _ c.requires.0 c.requires.1 _ _ c.slot_given.ensures c.if-slot_given.true

pub returns-then-not-named-clause-labelled : goal.returns-then-not-named-clause-labelled
unfolding judged
returns-then-not-named-clause-labelled c =
    one-nameless _ _ _ _ _ c.requires.0 c.requires.1 _ _ c.slot_given.ensures c.if-slot_given.false (sym c.named.ensures ∙ c.if-not-named.true)

pub returns-clause-labelled : goal.returns-clause-labelled
unfolding judged
returns-clause-labelled c =
    (one-new _ _ _ _ _ c.requires.0 c.requires.1 _ _ c.slot_given.ensures c.if-slot_given.false _ c.requires.2 c.requires.3 (sym c.named.ensures ∙ c.if-not-named.false) c.put_slot.ensures).1
