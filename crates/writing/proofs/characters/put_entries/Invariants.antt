-- The function `put_entries` meets its contract: a turn puts the entry of one character, if it has one. Assumes nothing.
use Prim.Native.Nat.{suc, ◌-◌}
use Rattle.writing.proofs.PutWalks.{Going}
use Rattle.writing.specs.CharacterLines.{EntriesPut}
use mathlib.Core.Bool.{true}
use Rattle.writing.proofs.characters.put_entries.Given as goal

abbrev pub invariant-loop-k : goal.invariant-loop-k
invariant-loop-k l = Going l.initial.buffer (EntriesPut true l.source l.initial.i 1 l.k-end l.initial.buffer l.initial.m) l.buffer (EntriesPut l.first l.source l.i (suc l.k) (l.k-end - l.k) l.buffer l.m)
