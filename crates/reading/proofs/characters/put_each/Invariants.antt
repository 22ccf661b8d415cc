-- The function `put_each` meets its contract: a turn puts ten characters or one. The measure is how many are left. Assumes nothing.
use Prim.Native.Nat.{◌+◌, ◌*◌, ◌-◌}
use Rattle.reading.proofs.CharacterWalk.{Spelling}
use Rattle.reading.specs.CharactersHeld.{characters_from}
use Rattle.record.specs.Spell.{spell_characters}
use lib.ListN.{take}
use Rattle.reading.proofs.characters.put_each.Given as goal

abbrev pub invariant-loop-k : goal.invariant-loop-k
invariant-loop-k l =
    Spelling l.text (take l.at l.work) l.work l.at l.characters l.typed l.o l.initial.buffer l.n (spell_characters 1 (characters_from l.text (take l.at l.work) l.work l.o l.typed l.at (l.at + l.characters) (l.at + 2 * l.characters) l.characters)) l.buffer l.m l.k

abbrev pub decreases-loop-k : goal.decreases-loop-k
decreases-loop-k l = l.characters - l.k
