-- The function `line_slot` meets its contract. Assumes nothing.
use Rattle.naming.specs.Entries.{line_slot}
use Rattle.slots.proofs.HashLaws.{hash-small}
use Prim.Native.Nat.{◌<◌}
use native.Mathlib.Omega.{arith}
use Rattle.naming.proofs.names.line_slot.Goals as goal

pub slot_of-requires : goal.slot_of-requires
slot_of-requires c =
    let small : c.line_hash-h.result < 4294967296 = rw c.line_hash-h.ensures (hash-small _) in
    (c.requires, omega arith)

pub returns : goal.returns
unfolding line_slot
returns c = rw (← c.line_hash-h.ensures) c.slot_of.ensures
