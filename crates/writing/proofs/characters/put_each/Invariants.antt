-- The function `put_each` meets its contract: a turn puts one state label. The measure is what is left of the bytes. Assumes nothing.
use Prim.Native.Nat.{◌-◌}
use Rattle.record.specs.Form.{form_each}
use Rattle.writing.proofs.PutWalks.{Going}
use Rattle.writing.specs.CharacterLines.{StatesPut}
use lib.ListN.{length}
use Rattle.writing.proofs.characters.put_each.Given as goal

abbrev pub invariant-loop-buffer : goal.invariant-loop-buffer
invariant-loop-buffer l = Going l.initial.buffer (StatesPut form_each l.source l.initial.i l.initial.buffer l.initial.m) l.buffer (StatesPut form_each l.source l.i l.buffer l.m)

abbrev pub decreases-loop-buffer : goal.decreases-loop-buffer
decreases-loop-buffer l = length l.source - l.i
