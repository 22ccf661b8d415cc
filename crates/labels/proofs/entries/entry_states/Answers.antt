-- The function `entry_states` meets its contract: the count, and a store. Assumes nothing.
use Rattle.block.specs.Judged.{judged}
use Rattle.labels.proofs.EntryTurns.{states-many, states-few}
use Rattle.labels.proofs.entries.entry_states.Goals as goal

pub returns-then-room-count-clause-labelled : goal.returns-then-room-count-clause-labelled
unfolding judged
returns-then-room-count-clause-labelled c =
    states-many _ _ _ _ _ c.requires.0 c.requires.1 _ _ _ _ c.requires.4 _ c.count_words-count.ensures c.if-room-count.true

pub returns-clause-labelled : goal.returns-clause-labelled
unfolding judged
returns-clause-labelled c =
    (states-few _ _ _ _ _ c.requires.0 c.requires.1 _ _ _ _ c.requires.4 _ c.count_words-count.ensures c.if-room-count.false c.requires.6 c.requires.2 c.requires.3 _ c.put_slot.ensures).1
