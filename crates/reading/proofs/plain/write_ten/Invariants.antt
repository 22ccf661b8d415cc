-- The function `write_ten` meets its contract: a turn writes the rest of a character over what stands behind the front. The measure is how many digits are
-- left. Assumes nothing.
use Prim.Native.Nat.{◌+◌, ◌*◌, ◌-◌, ◌≤◌}
use Rattle.reading.proofs.PutWalks.{Putting}
use Rattle.reading.proofs.TenPlain.{from_digit}
use Rattle.reading.specs.CharactersHeld.{plain_character}
use Rattle.record.specs.Spell.{spell_characters}
use lib.ListN.{replicate}
use Rattle.reading.proofs.plain.write_ten.Given as goal

abbrev pub invariant-loop-digit : goal.invariant-loop-digit
invariant-loop-digit l =
    (48 ≤ l.digit) × (l.digit ≤ 58) × (l.m ≤ l.n + 64 * (l.digit - 48))
    × Putting l.initial.buffer l.n (spell_characters l.number (replicate 10 (plain_character l.ordering))) l.buffer l.m (from_digit l.number l.ordering l.digit)
