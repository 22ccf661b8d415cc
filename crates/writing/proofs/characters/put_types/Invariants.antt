-- The function `put_types` meets its contract: a turn puts the type of one character. Assumes nothing.
use Prim.Native.Nat.{suc, ◌-◌}
use Rattle.writing.proofs.PutWalks.{Going}
use Rattle.writing.specs.CharacterLines.{TypesPut}
use Rattle.writing.proofs.characters.put_types.Given as goal

abbrev pub invariant-loop : goal.invariant-loop
invariant-loop l = Going l.initial.buffer (TypesPut l.source l.initial.i 1 l.end l.initial.buffer l.initial.m) l.buffer (TypesPut l.source l.i (suc l.counter) (l.end - l.counter) l.buffer l.m)
