-- The tokens of a written form, piece by piece: what lexing the form gives, and what reading it goes by.
use Prim.Native.Nat.{ℕ, suc}
use Prim.Native.String.{String}
use Rattle.block.specs.Blocks.{has_ordered}
use Rattle.block.specs.Cell.{Cell, state, uncertain, polymorphic, missing, gap}
use Rattle.block.specs.Reading.{Taxon, Character, Reading}
use Rattle.block.specs.declared.data.DataType.{DataType}
use Rattle.lexer.specs.Base.{pick, bytes}
use Rattle.lexer.specs.Tokens.{Token}
use Rattle.lexer.specs.declared.Kind.{Kind}
use Rattle.record.specs.Decimal.{decimal}
use Rattle.record.specs.Form.{any_label, labelled, missing_sign, gap_sign, sign}
use Rattle.block.specs.Sound.{gap_in}
use Rattle.record.specs.Spell.{order_word}
use lib.Dec.{eqb}
use lib.ListN.{length}
use mathlib.Core.Bool.{Bool, true, false}
use mathlib.Core.List.{List, [], ◌∷◌}

abbrev pub word : List ℕ → Token
word text = record { kind = Kind.Word; text = text }

abbrev pub key : String → Token
key text = word (bytes text)

abbrev pub mark : ℕ → Token
mark b = record { kind = Kind.Punctuation b; text = b ∷ [] }

abbrev pub newline : Token
newline = record { kind = Kind.Newline; text = [] }

abbrev pub string : List ℕ → Token
string text = record { kind = Kind.String; text = text }

-- A name in the form's quotes: each blank as `_`.
unfoldable pub underscored : List ℕ → List ℕ
underscored [] = []
underscored (b ∷ r) = pick (eqb b 32) 95 b ∷ underscored r

abbrev pub name : List ℕ → Token
name n = record { kind = Kind.Quoted; text = underscored n }

-- A symbol that stands alone.
unfoldable pub sign_token : ℕ → Token
sign_token b = pick (eqb b 43) (mark 43) (word (b ∷ []))

-- FORMAT
unfoldable pub gap_tokens : ℕ → Bool → List Token → List Token
gap_tokens g false behind = behind
gap_tokens g true behind = key "GAP" ∷ mark 61 ∷ sign_token g ∷ behind

unfoldable pub format_tokens : DataType → List ℕ → Bool → List Token → List Token
format_tokens DataType.Standard symbols gaps behind =
    key "FORMAT" ∷ key "DATATYPE" ∷ mark 61 ∷ key "STANDARD" ∷ key "RESPECTCASE" ∷ key "MISSING" ∷ mark 61 ∷ sign_token (missing_sign DataType.Standard symbols) ∷ gap_tokens (gap_sign DataType.Standard symbols) gaps (key "SYMBOLS" ∷ mark 61 ∷ string symbols ∷ mark 59 ∷ newline ∷ behind)
format_tokens DataType.Dna symbols gaps behind =
    key "FORMAT" ∷ key "DATATYPE" ∷ mark 61 ∷ key "DNA" ∷ key "MISSING" ∷ mark 61 ∷ key "?" ∷ key "GAP" ∷ mark 61 ∷ key "-" ∷ mark 59 ∷ newline ∷ behind

-- CHARSTATELABELS
unfoldable pub label_tokens : List ℕ → List Token → List Token
label_tokens [] behind = behind
label_tokens (b ∷ l) behind = name (b ∷ l) ∷ behind

unfoldable pub each_tokens : List (List ℕ) → List Token → List Token
each_tokens [] behind = behind
each_tokens (s ∷ r) behind = name s ∷ each_tokens r behind

unfoldable pub states_tokens : List (List ℕ) → List Token → List Token
states_tokens [] behind = behind
states_tokens (s ∷ r) behind = mark 47 ∷ each_tokens (s ∷ r) behind

unfoldable pub entry_tokens : ℕ → Character → List Token → List Token
entry_tokens k c behind = word (decimal k) ∷ label_tokens c.label (states_tokens c.states behind)

unfoldable pub comma_tokens : Bool → List Token → List Token
comma_tokens true behind = behind
comma_tokens false behind = mark 44 ∷ behind

unfoldable pub entries_tokens : Bool → ℕ → List Character → List Token → List Token
entries_tokens first k [] behind = behind
entries_tokens first k (c ∷ r) behind =
    let none = entries_tokens first (suc k) r behind in
    let entry = comma_tokens first (entry_tokens k c (entries_tokens false (suc k) r behind)) in
    pick (any_label c) entry none

unfoldable pub labels_tokens : List Character → List Token → List Token
labels_tokens cs behind =
    let labels = key "CHARSTATELABELS" ∷ entries_tokens true 1 cs (mark 59 ∷ newline ∷ behind) in
    pick (labelled cs) labels behind

-- Cells. A symbol joins the word that begins right behind it; `+` is a token of its own.
unfoldable pub joined_kind : ℕ → Kind → List ℕ → List Token → List Token
joined_kind b Kind.Word text r = word (b ∷ text) ∷ r
joined_kind b Kind.Quoted text r = word (b ∷ []) ∷ record { kind = Kind.Quoted; text = text } ∷ r
joined_kind b Kind.String text r = word (b ∷ []) ∷ record { kind = Kind.String; text = text } ∷ r
joined_kind b (Kind.Punctuation c) text r = word (b ∷ []) ∷ record { kind = Kind.Punctuation c; text = text } ∷ r
joined_kind b Kind.Newline text r = word (b ∷ []) ∷ record { kind = Kind.Newline; text = text } ∷ r
joined_kind b Kind.OpenQuote text r = word (b ∷ []) ∷ record { kind = Kind.OpenQuote; text = text } ∷ r
joined_kind b Kind.OpenComment text r = word (b ∷ []) ∷ record { kind = Kind.OpenComment; text = text } ∷ r

unfoldable pub joined : ℕ → List Token → List Token
joined b [] = word (b ∷ []) ∷ []
joined b (t ∷ r) = joined_kind b t.kind t.text r

unfoldable pub sign_joined : ℕ → List Token → List Token
sign_joined b ts = let plain = joined b ts in pick (eqb b 43) (mark 43 ∷ ts) plain

unfoldable pub set_tokens : List ℕ → List ℕ → List Token → List Token
set_tokens symbols [] behind = behind
set_tokens symbols (i ∷ r) behind = sign_joined (sign symbols i) (set_tokens symbols r behind)

unfoldable pub cell_tokens : DataType → List ℕ → Cell → List Token → List Token
cell_tokens t symbols (state i) behind = sign_joined (sign symbols i) behind
cell_tokens t symbols (uncertain s) behind = mark 123 ∷ set_tokens symbols s (mark 125 ∷ behind)
cell_tokens t symbols (polymorphic s) behind = mark 40 ∷ set_tokens symbols s (mark 41 ∷ behind)
cell_tokens t symbols missing behind = sign_joined (missing_sign t symbols) behind
cell_tokens t symbols gap behind = sign_joined (gap_sign t symbols) behind

unfoldable pub cells_tokens : DataType → List ℕ → List Cell → List Token → List Token
cells_tokens t symbols [] behind = behind
cells_tokens t symbols (c ∷ r) behind = cell_tokens t symbols c (cells_tokens t symbols r behind)

unfoldable pub rows_tokens : DataType → List ℕ → List Taxon → List Token → List Token
rows_tokens t symbols [] behind = behind
rows_tokens t symbols (x ∷ r) behind =
    name x.name ∷ cells_tokens t symbols x.cells (newline ∷ rows_tokens t symbols r behind)

-- ASSUMPTIONS
unfoldable pub types_tokens : List Character → List Token → List Token
types_tokens [] behind = behind
types_tokens (c ∷ r) behind = word (order_word c.ordering) ∷ types_tokens r behind

unfoldable pub assumptions_tokens : List Character → List Token
assumptions_tokens cs =
    let types =
    key "BEGIN" ∷ key "ASSUMPTIONS" ∷ mark 59 ∷ newline ∷ key "TYPESET" ∷ mark 42 ∷ key "w" ∷ mark 40 ∷ key "VECTOR" ∷ mark 41 ∷ mark 61 ∷ types_tokens cs (mark 59 ∷ newline ∷ key "END" ∷ mark 59 ∷ newline ∷ [])
    in
    pick (has_ordered cs) types []

unfoldable pub dimensions_tokens : Reading → List Token → List Token
dimensions_tokens r behind =
    key "DIMENSIONS" ∷ key "NTAX" ∷ mark 61 ∷ word (decimal (length r.taxa)) ∷ key "NCHAR" ∷ mark 61 ∷ word (decimal (length r.characters)) ∷ mark 59 ∷ newline ∷ behind

-- The whole form.
unfoldable pub form_tokens : Reading → List Token
form_tokens r =
    key "#NEXUS" ∷ newline ∷ key "BEGIN" ∷ key "DATA" ∷ mark 59 ∷ newline ∷ dimensions_tokens r
    (format_tokens r.data_type r.symbols (gap_in r.taxa)
    (labels_tokens r.characters
    (key "MATRIX" ∷ newline ∷ rows_tokens r.data_type r.symbols r.taxa
    (mark 59 ∷ newline ∷ key "END" ∷ mark 59 ∷ newline ∷ assumptions_tokens r.characters))))
