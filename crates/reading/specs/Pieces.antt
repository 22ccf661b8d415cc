-- Pieces of a record, each in front of what stands behind it, as they are put from work memory.
use Rattle.std.specs.Prelude.{ℕ, Bool, true, false, List, [], ◌∷◌, ◌++◌}
use Rattle.block.specs.Cell.{Cell}
use Rattle.block.specs.NamesHeld.{name_of}
use Rattle.lexer.specs.Base.{pick, byte}
use Rattle.lexer.specs.Stored.{word_of}
use Rattle.record.specs.Spell.{escaped, line, spell_cell}

-- Cells of a row, the first of all or behind others: each but the first of all has a blank before it.
unfoldable pub spell_on : Bool → List Cell → List ℕ → List ℕ
spell_on started [] behind = behind
spell_on started (c ∷ r) behind =
    let this = spell_cell c ++ spell_on true r behind in
    pick started (byte " " ∷ this) this

-- The name that a word is, escaped.
unfoldable pub name_piece : List ℕ → List ℕ → ℕ → List ℕ → List ℕ
name_piece text front i behind = escaped (name_of (word_of text front i)) ++ behind

-- A taxon: its name, and its cells.
unfoldable pub taxon_piece : List ℕ → List Cell → List ℕ → List ℕ
taxon_piece name cells behind = line "name=" (escaped name) (line "cells=" (spell_on false cells []) behind)
