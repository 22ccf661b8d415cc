-- What a reading is: the conditions that every reading of a text meets, and that a record must meet.
use Rattle.std.specs.Prelude.{ℕ, leb, ltb, length, Bool, true, false, ◌&&◌, ◌||◌, not, List, [], ◌∷◌, ◌++◌, ◌≡◌}
use Rattle.block.specs.Blocks.{orderable}
use Rattle.block.specs.Cell.{Cell, state, uncertain, polymorphic, missing, gap}
use Rattle.block.specs.Dna.{acgt}
use Rattle.block.specs.Format.{all_valid}
use Rattle.block.specs.Interleaved.{all_long}
use Rattle.block.specs.Names.{known}
use Rattle.block.specs.Reading.{Taxon, Character, Reading}
use Rattle.block.specs.Sequential.{names}
use Rattle.block.specs.declared.data.DataType.{DataType}
use Rattle.lexer.specs.Base.{pick, among, same, is_empty, byte}
use Rattle.lexer.specs.Classes.{blank}
use Rattle.lexer.specs.Utf8.{utf8}
use Rattle.lexer.specs.Words.{largest}

-- A name holds no `_` and no CR, and is not all White_Space (nor empty), unless a U+0020 is in it.
unfoldable pub no_underscore : List ℕ → Bool
no_underscore n = not (among (byte "_") n)

unfoldable pub no_return : List ℕ → Bool
no_return n = not (among (byte "\r") n)

unfoldable pub not_blank : List ℕ → Bool
not_blank n = not (blank n) || among (byte " ") n

unfoldable pub sound_name : List ℕ → Bool
sound_name n = utf8 n && no_underscore n && no_return n && not_blank n

-- A test holds of each of these texts.
unfoldable pub each : (List ℕ → Bool) → List (List ℕ) → Bool
each test [] = true
each test (n ∷ r) = let more = each test r in test n && more

unfoldable pub sound_names : List (List ℕ) → Bool
sound_names [] = true
sound_names (n ∷ r) = let more = sound_names r in sound_name n && more

-- A label: empty, or a name.
unfoldable pub sound_label : List ℕ → Bool
sound_label l = is_empty l || sound_name l

-- No two names are alike.
unfoldable pub names_differ : List (List ℕ) → Bool
names_differ [] = true
names_differ (n ∷ r) = let more = names_differ r in not (known n r) && more

-- Indices rise strictly and are below the symbol count.
unfoldable pub rising : ℕ → List ℕ → Bool
rising count [] = true
rising count (i ∷ []) = ltb i count
rising count (i ∷ j ∷ r) = let more = rising count (j ∷ r) in ltb i j && more

-- A set is not empty.
unfoldable pub sound_set : ℕ → List ℕ → Bool
sound_set count s = not (is_empty s) && rising count s

unfoldable pub sound_cell : ℕ → Cell → Bool
sound_cell count (state i) = ltb i count
sound_cell count (uncertain s) = sound_set count s
sound_cell count (polymorphic s) = sound_set count s
sound_cell count missing = true
sound_cell count gap = true

unfoldable pub sound_cells : ℕ → List Cell → Bool
sound_cells count [] = true
sound_cells count (c ∷ r) = let more = sound_cells count r in sound_cell count c && more

unfoldable pub sound_rows : ℕ → List Taxon → Bool
sound_rows count [] = true
sound_rows count (t ∷ r) = let more = sound_rows count r in sound_cells count t.cells && more

-- Does a gap cell occur?
unfoldable pub is_gap : Cell → Bool
is_gap (state i) = false
is_gap (uncertain s) = false
is_gap (polymorphic s) = false
is_gap missing = false
is_gap gap = true

unfoldable pub gap_among : List Cell → Bool
gap_among [] = false
gap_among (c ∷ r) = let more = gap_among r in is_gap c || more

unfoldable pub gap_in : List Taxon → Bool
gap_in [] = false
gap_in (t ∷ r) = let more = gap_in r in gap_among t.cells || more

-- All numbers of a list are different.
unfoldable pub distinct : List ℕ → Bool
distinct [] = true
distinct (a ∷ r) = let more = distinct r in not (among a r) && more

-- STANDARD has 2 to 73 symbols, 72 where a gap cell occurs: missing, and the gap, are symbols of their own among the 74.
unfoldable pub most_symbols : Bool → ℕ
most_symbols true = 72
most_symbols false = 73

unfoldable pub sound_symbols : DataType → List ℕ → Bool → Bool
sound_symbols DataType.Standard symbols gaps =
    leb 2 (length symbols) && leb (length symbols) (most_symbols gaps) && all_valid symbols && distinct symbols
sound_symbols DataType.Dna symbols gaps = same symbols acgt

-- The symbols of DNA are ACGT.
unfoldable pub dna_symbols : DataType → List ℕ → Bool
dna_symbols DataType.Standard symbols = true
dna_symbols DataType.Dna symbols = same symbols acgt

-- The labels and state labels that there are.
unfoldable pub label_texts : List Character → List (List ℕ)
label_texts [] = []
label_texts (c ∷ r) = let more = c.states ++ label_texts r in pick (is_empty c.label) more (c.label ∷ more)

-- Labels and state labels are names; a label may be absent.
unfoldable pub sound_labels : List Character → Bool
sound_labels [] = true
sound_labels (c ∷ r) = let more = sound_labels r in sound_label c.label && sound_names c.states && more

-- A character has at most so many state labels.
unfoldable pub few_states : ℕ → List Character → Bool
few_states count [] = true
few_states count (c ∷ r) = let more = few_states count r in leb (length c.states) count && more

-- The conditions one by one. A record must meet them all, and every reading of a text does.
pub record Sound (r : Reading) : Type 0 where
  pub some_taxon : is_empty r.taxa ≡ false
  pub some_character : is_empty r.characters ≡ false
  -- both counts have 64 bits, so that DIMENSIONS can declare them
  pub taxa_few : leb (length r.taxa) largest ≡ true
  pub characters_few : leb (length r.characters) largest ≡ true
  -- every row has exactly as many cells as there are characters
  pub rows_long : all_long (length r.characters) r.taxa ≡ true
  -- indices rise strictly in a set, and are below the symbol count
  pub cells_sound : sound_rows (length r.symbols) r.taxa ≡ true
  -- symbols are valid and different, 2 to 73, or 72 beside a gap cell; those of DNA are ACGT
  pub symbols_valid : all_valid r.symbols ≡ true
  pub symbols_different : distinct r.symbols ≡ true
  pub symbols_two : leb 2 (length r.symbols) ≡ true
  pub symbols_most : leb (length r.symbols) (most_symbols (gap_in r.taxa)) ≡ true
  pub symbols_dna : dna_symbols r.data_type r.symbols ≡ true
  -- names are UTF-8, hold no `_` and no CR, and are blank-only only with a U+0020
  pub names_utf8 : each utf8 (names r.taxa) ≡ true
  pub names_underscore : each no_underscore (names r.taxa) ≡ true
  pub names_return : each no_return (names r.taxa) ≡ true
  pub names_blank : each not_blank (names r.taxa) ≡ true
  -- names differ, ASCII case ignored
  pub names_unlike : names_differ (names r.taxa) ≡ true
  -- labels and state labels likewise; they may be alike
  pub labels_utf8 : each utf8 (label_texts r.characters) ≡ true
  pub labels_underscore : each no_underscore (label_texts r.characters) ≡ true
  pub labels_return : each no_return (label_texts r.characters) ≡ true
  pub labels_blank : each not_blank (label_texts r.characters) ≡ true
  -- at most as many state labels as symbols
  pub states_few : few_states (length r.symbols) r.characters ≡ true
  -- DNA has no ordered character
  pub dna_unordered : orderable r.data_type r.characters ≡ true

-- The same as a test.
unfoldable pub sound : Reading → Bool
sound r =
    not (is_empty r.taxa)
    && not (is_empty r.characters)
    && leb (length r.taxa) largest
    && leb (length r.characters) largest
    && all_long (length r.characters) r.taxa
    && sound_rows (length r.symbols) r.taxa
    && sound_symbols r.data_type r.symbols (gap_in r.taxa)
    && sound_names (names r.taxa)
    && names_differ (names r.taxa)
    && sound_labels r.characters
    && few_states (length r.symbols) r.characters
    && orderable r.data_type r.characters
