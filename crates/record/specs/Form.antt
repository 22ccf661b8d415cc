-- The written form of a reading: a NEXUS text that reads as it.
use Rattle.std.specs.Prelude.{ℕ, suc, eqb, length, get_or, Bool, true, false, ◌||◌, not, List, [], ◌∷◌, ◌++◌}
use Rattle.lexer.specs.Base.{pick, bytes, among, is_empty, byte}
use Rattle.block.specs.Blocks.{has_ordered}
use Rattle.block.specs.Cell.{Cell, state, uncertain, polymorphic, missing, gap}
use Rattle.block.specs.Format.{valid_symbols}
use Rattle.block.specs.Reading.{Taxon, Character, Reading}
use Rattle.block.specs.declared.data.DataType.{DataType}
use Rattle.record.specs.Decimal.{decimal}
use Rattle.block.specs.Sound.{gap_in}
use Rattle.record.specs.Spell.{order_word}

-- The first of these that is not taken.
unfoldable pub first_free : List ℕ → List ℕ → ℕ
first_free taken [] = 0
first_free taken (s ∷ r) = let more = first_free taken r in pick (among s taken) more s

-- MISSING is the lowest valid symbol not among the states; GAP the next lowest.
unfoldable pub missing_sign : DataType → List ℕ → ℕ
missing_sign DataType.Standard symbols = first_free symbols valid_symbols
missing_sign DataType.Dna symbols = byte "?"

unfoldable pub gap_sign : DataType → List ℕ → ℕ
gap_sign DataType.Standard symbols = first_free (missing_sign DataType.Standard symbols ∷ symbols) valid_symbols
gap_sign DataType.Dna symbols = byte "-"

-- Names and labels stand in single quotes: quotes doubled, each blank (U+0020) as `_`.
unfoldable pub quote : ℕ → List ℕ
quote b = pick (eqb b (byte "'")) (byte "'" ∷ byte "'" ∷ []) (pick (eqb b (byte " ")) (byte "_" ∷ []) (b ∷ []))

unfoldable pub quoted_from : List ℕ → List ℕ → List ℕ
quoted_from [] behind = byte "'" ∷ behind
quoted_from (b ∷ r) behind = quote b ++ quoted_from r behind

unfoldable pub quoted : List ℕ → List ℕ → List ℕ
quoted n behind = byte "'" ∷ quoted_from n behind

-- FORMAT
unfoldable pub gap_option : ℕ → Bool → List ℕ → List ℕ
gap_option sign false behind = behind
gap_option sign true behind = bytes " GAP=" ++ (sign ∷ behind)

unfoldable pub form_format : DataType → List ℕ → Bool → List ℕ → List ℕ
form_format DataType.Standard symbols gaps behind =
    bytes "FORMAT DATATYPE=STANDARD RESPECTCASE MISSING="
    ++ (missing_sign DataType.Standard symbols
    ∷ gap_option (gap_sign DataType.Standard symbols) gaps
    (bytes " SYMBOLS=\"" ++ (symbols ++ (bytes "\";\n" ++ behind))))
form_format DataType.Dna symbols gaps behind = bytes "FORMAT DATATYPE=DNA MISSING=? GAP=-;\n" ++ behind

-- CHARSTATELABELS: an entry for each character with a label or state labels.
unfoldable pub any_label : Character → Bool
any_label c = not (is_empty c.label) || not (is_empty c.states)

unfoldable pub labelled : List Character → Bool
labelled [] = false
labelled (c ∷ r) = let more = labelled r in any_label c || more

unfoldable pub form_label : List ℕ → List ℕ → List ℕ
form_label [] behind = behind
form_label (b ∷ l) behind = byte " " ∷ quoted (b ∷ l) behind

unfoldable pub form_each : List (List ℕ) → List ℕ → List ℕ
form_each [] behind = behind
form_each (s ∷ r) behind = byte " " ∷ quoted s (form_each r behind)

unfoldable pub form_states : List (List ℕ) → List ℕ → List ℕ
form_states [] behind = behind
form_states (s ∷ r) behind = byte " " ∷ byte "/" ∷ form_each (s ∷ r) behind

-- The entries of the characters from this number on; a comma stands before each but the first.
unfoldable pub form_entry : ℕ → Character → List ℕ → List ℕ
form_entry k c behind = byte " " ∷ decimal k ++ form_label c.label (form_states c.states behind)

unfoldable pub comma : Bool → List ℕ → List ℕ
comma true behind = behind
comma false behind = byte "," ∷ behind

unfoldable pub form_entries : Bool → ℕ → List Character → List ℕ → List ℕ
form_entries first k [] behind = behind
form_entries first k (c ∷ r) behind =
    let none = form_entries first (suc k) r behind in
    let entry = comma first (form_entry k c (form_entries false (suc k) r behind)) in
    pick (any_label c) entry none

unfoldable pub form_labels : List Character → List ℕ → List ℕ
form_labels cs behind =
    let labels = bytes "CHARSTATELABELS" ++ form_entries true 1 cs (bytes ";\n" ++ behind) in
    pick (labelled cs) labels behind

-- Cells: a state as its symbol, a set as its symbols in braces or parentheses.
unfoldable pub sign : List ℕ → ℕ → ℕ
sign symbols i = get_or symbols i 0

unfoldable pub form_set : List ℕ → List ℕ → List ℕ → List ℕ
form_set symbols [] behind = behind
form_set symbols (i ∷ r) behind = sign symbols i ∷ form_set symbols r behind

unfoldable pub form_cell : DataType → List ℕ → Cell → List ℕ → List ℕ
form_cell t symbols (state i) behind = sign symbols i ∷ behind
form_cell t symbols (uncertain s) behind = byte "{" ∷ form_set symbols s (byte "}" ∷ behind)
form_cell t symbols (polymorphic s) behind = byte "(" ∷ form_set symbols s (byte ")" ∷ behind)
form_cell t symbols missing behind = missing_sign t symbols ∷ behind
form_cell t symbols gap behind = gap_sign t symbols ∷ behind

unfoldable pub form_cells : DataType → List ℕ → List Cell → List ℕ → List ℕ
form_cells t symbols [] behind = behind
form_cells t symbols (c ∷ r) behind = form_cell t symbols c (form_cells t symbols r behind)

-- A row: the name, a blank, the cells.
unfoldable pub form_rows : DataType → List ℕ → List Taxon → List ℕ → List ℕ
form_rows t symbols [] behind = behind
form_rows t symbols (x ∷ r) behind =
    quoted x.name (byte " " ∷ form_cells t symbols x.cells (byte "\n" ∷ form_rows t symbols r behind))

-- ASSUMPTIONS, if any character is ordered: a VECTOR with the type of each.
unfoldable pub form_types : List Character → List ℕ → List ℕ
form_types [] behind = behind
form_types (c ∷ r) behind = byte " " ∷ order_word c.ordering ++ form_types r behind

unfoldable pub form_assumptions : List Character → List ℕ → List ℕ
form_assumptions cs behind =
    let types = bytes "BEGIN ASSUMPTIONS;\nTYPESET * w (VECTOR) =" ++ form_types cs (bytes ";\nEND;\n" ++ behind) in
    pick (has_ordered cs) types behind

unfoldable pub form_dimensions : Reading → List ℕ → List ℕ
form_dimensions r behind =
    bytes "DIMENSIONS NTAX="
    ++ (decimal (length r.taxa) ++ (bytes " NCHAR=" ++ (decimal (length r.characters) ++ (bytes ";\n" ++ behind))))

unfoldable pub form : Reading → List ℕ
form r =
    bytes "#NEXUS\nBEGIN DATA;\n"
    ++ form_dimensions r
    (form_format r.data_type r.symbols (gap_in r.taxa)
    (form_labels r.characters
    (bytes "MATRIX\n"
    ++ form_rows r.data_type r.symbols r.taxa
    (bytes ";\nEND;\n" ++ form_assumptions r.characters []))))
