-- The record of a matrix that work memory holds, put into a buffer.
use Rattle.std.specs.Prelude.{ℕ, ◌≤◌, length, take, List, ◌≡◌}
use Rattle.block.specs.Format.{Format}
use Rattle.block.specs.Reading.{Reading}
use Rattle.commands.specs.MatrixHeld.{format_held, reading_held}
use Rattle.commands.specs.declared.state.Held.{Held}
use Rattle.emit.specs.Puts.{Puts}
use Rattle.record.specs.Decimal.{decimal}
use Rattle.record.specs.Spell.{line, spell_characters, spell_head, spell_taxa, type_word}

-- The first four lines, by the format and the counts.
unfoldable pub head_piece : Format → ℕ → ℕ → List ℕ → List ℕ
head_piece f taxa characters behind =
    line "datatype=" (type_word f.data_type)
    (line "taxa=" (decimal taxa)
    (line "characters=" (decimal characters)
    (line "symbols=" f.symbols behind)))

-- The record of a reading, in front of what stands behind it.
unfoldable pub record_piece : Reading → List ℕ → List ℕ
record_piece r behind = spell_head r (spell_taxa r.taxa (spell_characters 1 r.characters behind))

-- The buffer keeps its length; and if the format has no more symbols than the code's format can hold, the record of what is held is put.
pub record RecordPut (text work : List ℕ) (count : ℕ) (h : Held) (before : List ℕ) (n : ℕ) (after : List ℕ) (next : ℕ) : Type 0 where
  pub kept : length after ≡ length before
  pub put : length (format_held text (take count work) h.style).symbols ≤ 74 → Puts before n (record_piece (reading_held text work count h)) after next
