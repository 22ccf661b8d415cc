-- The function `name_slot` meets its contract. Assumes nothing.
use Rattle.lexer.specs.Stored.{word_of}
use Rattle.slots.proofs.HashLaws.{hash-small}
use Rattle.slots.proofs.filling.name_slot.Goals as goal

pub slot_of-requires : goal.slot_of-requires
slot_of-requires c = (c.requires, rw c.hash_at.ensures (hash-small _))

pub returns : goal.returns
unfolding word_of
returns c = rw (← c.start_of.ensures, ← c.hash_at.ensures) c.slot_of.ensures
