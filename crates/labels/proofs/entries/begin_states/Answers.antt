-- The function `begin_states` meets its contract: the character has state labels, or they begin here. Assumes nothing.
use Rattle.labels.proofs.EntryTurns.{states-twice, states-begin}
use Rattle.labels.specs.LabelEntries.{entered, entry_of}
use Rattle.labels.proofs.entries.begin_states.Goals as goal

pub returns-then-slot_given-clause-entered : goal.returns-then-slot_given-clause-entered
unfolding entered
returns-then-slot_given-clause-entered c =
    λ text. states-twice text _ _ _ _ c.requires.0 c.requires.1 _ c.args.i c.slot_given.ensures c.if-slot_given.true

pub returns-clause-entered : goal.returns-clause-entered
unfolding entered entry_of
returns-clause-entered c =
    λ text. states-begin text _ _ _ _ c.requires.0 c.requires.1 _ c.args.i c.slot_given.ensures c.if-slot_given.false
