-- The record of a reading: lines `key=value`, each ended by LF.
use Rattle.std.specs.Prelude.{ℕ, suc, eqb, length, List, [], ◌∷◌, ◌++◌}
use Prim.Native.String.{String}
use Rattle.lexer.specs.Base.{pick, bytes, byte}
use Rattle.block.specs.Cell.{Cell, state, uncertain, polymorphic, missing, gap}
use Rattle.block.specs.Reading.{Taxon, Character, Reading}
use Rattle.block.specs.declared.data.DataType.{DataType}
use Rattle.block.specs.declared.model.CharacterOrdering.{CharacterOrdering}
use Rattle.record.specs.Decimal.{decimal}

-- A line, in front of the lines behind it. The key is written with its `=`.
unfoldable pub line : String → List ℕ → List ℕ → List ℕ
line key value behind = bytes key ++ (value ++ (byte "\n" ∷ behind))

unfoldable pub type_word : DataType → List ℕ
type_word DataType.Standard = bytes "STANDARD"
type_word DataType.Dna = bytes "DNA"

unfoldable pub order_word : CharacterOrdering → List ℕ
order_word CharacterOrdering.Ordered = bytes "ORD"
order_word CharacterOrdering.Unordered = bytes "UNORD"

-- In names and labels LF is written `\0` and a backslash `\1`.
unfoldable pub escape : ℕ → List ℕ
escape b = pick (eqb b (byte "\n")) (byte "\\" ∷ byte "0" ∷ []) (pick (eqb b (byte "\\")) (byte "\\" ∷ byte "1" ∷ []) (b ∷ []))

unfoldable pub escaped : List ℕ → List ℕ
escaped [] = []
escaped (b ∷ r) = escape b ++ escaped r

-- Indices joined by dots.
unfoldable pub dotted : List ℕ → List ℕ
dotted [] = []
dotted (i ∷ []) = decimal i
dotted (i ∷ j ∷ r) = decimal i ++ (byte "." ∷ dotted (j ∷ r))

-- A cell: a state's index; `u` and indices joined by dots, uncertain; `p` likewise, polymorphic; `m` missing; `g` gap.
unfoldable pub spell_cell : Cell → List ℕ
spell_cell (state i) = decimal i
spell_cell (uncertain s) = byte "u" ∷ dotted s
spell_cell (polymorphic s) = byte "p" ∷ dotted s
spell_cell missing = byte "m" ∷ []
spell_cell gap = byte "g" ∷ []

-- Cells are parted by one blank.
unfoldable pub spell_cells : List Cell → List ℕ
spell_cells [] = []
spell_cells (c ∷ []) = spell_cell c
spell_cells (c ∷ d ∷ r) = spell_cell c ++ (byte " " ∷ spell_cells (d ∷ r))

unfoldable pub spell_taxa : List Taxon → List ℕ → List ℕ
spell_taxa [] behind = behind
spell_taxa (t ∷ r) behind = line "name=" (escaped t.name) (line "cells=" (spell_cells t.cells) (spell_taxa r behind))

unfoldable pub spell_states : List (List ℕ) → List ℕ → List ℕ
spell_states [] behind = behind
spell_states (s ∷ r) behind = line "state=" (escaped s) (spell_states r behind)

-- The character with this number.
unfoldable pub spell_character : ℕ → Character → List ℕ → List ℕ
spell_character k c behind =
    line "character=" (decimal k)
    (line "label=" (escaped c.label)
    (line "order=" (order_word c.ordering)
    (line "states=" (decimal (length c.states))
    (spell_states c.states behind))))

-- The characters, the first of them with this number.
unfoldable pub spell_characters : ℕ → List Character → List ℕ → List ℕ
spell_characters k [] behind = behind
spell_characters k (c ∷ r) behind = spell_character k c (spell_characters (suc k) r behind)

-- The record's first four lines.
unfoldable pub spell_head : Reading → List ℕ → List ℕ
spell_head r behind =
    line "datatype=" (type_word r.data_type)
    (line "taxa=" (decimal (length r.taxa))
    (line "characters=" (decimal (length r.characters))
    (line "symbols=" r.symbols behind)))

unfoldable pub spell : Reading → List ℕ
spell r = spell_head r (spell_taxa r.taxa (spell_characters 1 r.characters []))
