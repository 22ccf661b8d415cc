-- FORMAT: its options, its defaults, and which symbols may stand together.
use Rattle.std.specs.Prelude.{ℕ, leb, eqb, length, Bool, true, false, ◌&&◌, ◌||◌, not, List, [], ◌∷◌}
use Rattle.block.specs.Dna.{acgt, dna_code}
use Rattle.block.specs.Outcome.{Outcome, done, refused, then, fold}
use Rattle.block.specs.declared.data.DataType.{DataType}
use Rattle.block.specs.declared.formats.Key.{Key}
use Rattle.block.specs.declared.formats.Valued.{Valued}
use Rattle.lexer.specs.Base.{pick, bytes, among, same, lower, given, byte}
use Rattle.lexer.specs.Classes.{symbol, is_space, is_part}
use Rattle.lexer.specs.Words.{Numbered, is, punct, is_string}
use Rattle.lexer.specs.declared.refusal.Refusal.{Refusal}
use Rattle.std.proofs.Math.Option.{Option, none, some, get_or}

-- How cells are written.
pub record Format : Type 0 where
  pub data_type : DataType
  pub symbols : List ℕ
  pub missing : ℕ
  pub gap : Option ℕ
  pub respect_case : Bool
  pub interleave : Bool

-- Without FORMAT: STANDARD, symbols 01, missing `?`, no gap, case ignored, not interleaved.
unfoldable pub default_format : Format
default_format =
    record { data_type = DataType.Standard; symbols = bytes "01"; missing = byte "?"; gap = none; respect_case = false; interleave = false }

-- Two symbols are equal if the bytes are, or ignoring ASCII case unless RESPECTCASE was given.
unfoldable pub equal : Format → ℕ → ℕ → Bool
equal f a b = eqb a b || (not f.respect_case && eqb (lower a) (lower b))

-- A valid symbol is one of 74: ASCII 33 to 126 less these.
unfoldable pub invalid : List ℕ
invalid = bytes "()[]{}/\\,;:=*'\"`<>~^"

unfoldable pub valid_symbol : ℕ → Bool
valid_symbol b = leb 33 b && leb b 126 && not (among b invalid)

-- The valid symbols, rising.
unfoldable pub valid_symbols : List ℕ
valid_symbols = bytes "!#$%&+-.0123456789?@ABCDEFGHIJKLMNOPQRSTUVWXYZ_abcdefghijklmnopqrstuvwxyz|"

-- What the words of the command say; an option that was not given is none, or false.
pub record Options : Type 0 where
  pub data_type : Option DataType
  pub symbols : Option (List ℕ)
  pub missing : Option ℕ
  pub gap : Option ℕ
  pub interleave : Option Bool
  pub respect_case : Bool
  pub labels : Bool
  pub no_tokens : Bool

unfoldable pub options : Option DataType → Option (List ℕ) → Option ℕ → Option ℕ → Option Bool → Bool → Bool → Bool → Options
options t s m g i c l n =
    record { data_type = t; symbols = s; missing = m; gap = g; interleave = i; respect_case = c; labels = l; no_tokens = n }

unfoldable pub no_options : Options
no_options = options none none none none none false false false

-- The options with one more given.
unfoldable pub with_type : DataType → Options → Options
with_type t o = options (some t) o.symbols o.missing o.gap o.interleave o.respect_case o.labels o.no_tokens

unfoldable pub with_symbols : List ℕ → Options → Options
with_symbols s o = options o.data_type (some s) o.missing o.gap o.interleave o.respect_case o.labels o.no_tokens

unfoldable pub with_missing : ℕ → Options → Options
with_missing b o = options o.data_type o.symbols (some b) o.gap o.interleave o.respect_case o.labels o.no_tokens

unfoldable pub with_gap : ℕ → Options → Options
with_gap b o = options o.data_type o.symbols o.missing (some b) o.interleave o.respect_case o.labels o.no_tokens

unfoldable pub with_interleave : Bool → Options → Options
with_interleave b o = options o.data_type o.symbols o.missing o.gap (some b) o.respect_case o.labels o.no_tokens

unfoldable pub with_case : Options → Options
with_case o = options o.data_type o.symbols o.missing o.gap o.interleave true o.labels o.no_tokens

unfoldable pub with_labels : Options → Options
with_labels o = options o.data_type o.symbols o.missing o.gap o.interleave o.respect_case true o.no_tokens

unfoldable pub with_no_tokens : Options → Options
with_no_tokens o = options o.data_type o.symbols o.missing o.gap o.interleave o.respect_case o.labels true

-- Where the command is: at an option; behind INTERLEAVE, at its `=` or the next option; or behind the option with an index, at its `=` or value.
pub data Formatting : Type 0 where
  option : Options → Formatting
  perhaps : Options → ℕ → Formatting
  equals : Options → Valued → ℕ → Formatting
  value : Options → Valued → ℕ → Formatting

-- An option that was given already is refused before its value is looked for.
unfoldable pub once : Bool → Numbered → Formatting → Outcome Formatting
once seen w next = pick seen (refused Refusal.FormatOption w.index) (done next)

-- Which option a word is.
unfoldable pub key : Numbered → Key
key w =
    pick (is (bytes "DATATYPE") w) Key.DataType
    (pick (is (bytes "RESPECTCASE") w) Key.RespectCase
    (pick (is (bytes "LABELS") w) Key.Labels
    (pick (is (bytes "NOTOKENS") w) Key.NoTokens
    (pick (is (bytes "INTERLEAVE") w) Key.Interleave
    (pick (is (bytes "SYMBOLS") w) Key.Symbols
    (pick (is (bytes "MISSING") w) Key.Missing
    (pick (is (bytes "GAP") w) Key.Gap
    Key.Unknown)))))))

unfoldable pub key_option : Options → Numbered → Key → Outcome Formatting
key_option o w Key.DataType = once (given o.data_type) w (equals o Valued.DataType w.index)
key_option o w Key.RespectCase = once o.respect_case w (option (with_case o))
key_option o w Key.Labels = once o.labels w (option (with_labels o))
key_option o w Key.NoTokens = once o.no_tokens w (option (with_no_tokens o))
key_option o w Key.Interleave = once (given o.interleave) w (perhaps (with_interleave true o) w.index)
key_option o w Key.Symbols = once (given o.symbols) w (equals o Valued.Symbols w.index)
key_option o w Key.Missing = once (given o.missing) w (equals o Valued.Missing w.index)
key_option o w Key.Gap = once (given o.gap) w (equals o Valued.Gap w.index)
key_option o w Key.Unknown = refused Refusal.FormatOption w.index

unfoldable pub format_option : Options → Numbered → Outcome Formatting
format_option o w = key_option o w (key w)

-- The characters of a SYMBOLS text, White_Space dropped. A longer character leaves its first byte, which is no valid symbol.
unfoldable pub unspaced : List ℕ → List ℕ
unspaced [] = []
unspaced (b ∷ r) =
    let s = symbol b r in
    let more = unspaced r in
    let this = b ∷ more in
    pick (is_space s || is_part s) more this

-- The one valid symbol that a text is.
unfoldable pub single_symbol : List ℕ → Option ℕ
single_symbol [] = none
single_symbol (b ∷ []) = pick (valid_symbol b) (some b) none
single_symbol (b ∷ c ∷ r) = none

unfoldable pub symbol_value : Option ℕ → (ℕ → Options) → ℕ → Outcome Formatting
symbol_value none f i = refused Refusal.FormatOption i
symbol_value (some b) f i = done (option (f b))

-- A value. A wrong DATATYPE is refused at the option, the others at the value.
unfoldable pub format_value : Options → Valued → ℕ → Numbered → Outcome Formatting
format_value o Valued.DataType i w =
    pick (is (bytes "STANDARD") w) (done (option (with_type DataType.Standard o)))
    (pick (is (bytes "DNA") w) (done (option (with_type DataType.Dna o)))
    (refused Refusal.FormatOption i))
format_value o Valued.Symbols i w =
    let taken = done (option (with_symbols (unspaced w.token.text) o)) in
    pick (is_string w.token.kind) taken (refused Refusal.FormatOption w.index)
format_value o Valued.Missing i w = symbol_value (single_symbol w.token.text) (λ b. with_missing b o) w.index
format_value o Valued.Gap i w = symbol_value (single_symbol w.token.text) (λ b. with_gap b o) w.index
format_value o Valued.Interleave i w =
    pick (is (bytes "YES") w) (done (option (with_interleave true o)))
    (pick (is (bytes "NO") w) (done (option (with_interleave false o)))
    (refused Refusal.FormatOption w.index))

unfoldable pub format_turn : Formatting → Numbered → Outcome Formatting
format_turn (option o) w = format_option o w
format_turn (perhaps o i) w = let next = format_option o w in pick (punct (byte "=") w) (done (value o Valued.Interleave i)) next
format_turn (equals o k i) w = pick (punct (byte "=") w) (done (value o k i)) (refused Refusal.NoValue i)
format_turn (value o k i) w = format_value o k i w

unfoldable pub format_end : Formatting → Outcome Options
format_end (option o) = done o
format_end (perhaps o i) = done o
format_end (equals o k i) = refused Refusal.NoValue i
format_end (value o k i) = refused Refusal.NoValue i

-- The format that the options give: DNA has the symbols ACGT, and the gap `-` where none is given.
unfoldable pub settled : DataType → Options → Format
settled DataType.Standard o =
    record {
      data_type = DataType.Standard;
      symbols = get_or o.symbols (bytes "01");
      missing = get_or o.missing (byte "?");
      gap = o.gap;
      respect_case = o.respect_case;
      interleave = get_or o.interleave false;
    }
settled DataType.Dna o =
    record {
      data_type = DataType.Dna;
      symbols = acgt;
      missing = get_or o.missing (byte "?");
      gap = some (get_or o.gap (byte "-"));
      respect_case = o.respect_case;
      interleave = get_or o.interleave false;
    }

unfoldable pub format_of : Options → Format
format_of o = settled (get_or o.data_type DataType.Standard) o

-- DNA takes neither RESPECTCASE nor SYMBOLS other than ACGT, no code but N for missing, and no code for the gap.
unfoldable pub dna_options : DataType → Options → Format → Bool
dna_options DataType.Standard o f = true
dna_options DataType.Dna o f =
    not f.respect_case
    && same (get_or o.symbols acgt) acgt
    && (not (dna_code f.missing) || eqb (lower f.missing) (byte "n"))
    && not (dna_code (get_or f.gap (byte "-")))

unfoldable pub all_valid : List ℕ → Bool
all_valid [] = true
all_valid (b ∷ r) = let more = all_valid r in valid_symbol b && more

-- Is a symbol equal to one of these?
unfoldable pub clashes : Format → ℕ → List ℕ → Bool
clashes f a [] = false
clashes f a (b ∷ r) = let more = clashes f a r in equal f a b || more

unfoldable pub all_differ : Format → List ℕ → Bool
all_differ f [] = true
all_differ f (a ∷ r) = let more = all_differ f r in not (clashes f a r) && more

-- The symbols that must differ: missing and, if there is one, the gap, and the states.
unfoldable pub signs : Format → Option ℕ → List ℕ
signs f none = f.missing ∷ f.symbols
signs f (some g) = g ∷ f.missing ∷ f.symbols

-- May the symbols stand together?
unfoldable pub good_symbols : Options → Format → Bool
good_symbols o f =
    dna_options f.data_type o f && leb 2 (length f.symbols) && all_valid f.symbols && all_differ f (signs f f.gap)

unfoldable pub judged : ℕ → Options → Outcome Format
judged i o = let f = format_of o in pick (good_symbols o f) (done f) (refused Refusal.Symbols i)

-- The format that the words behind FORMAT, the word with this index, give.
unfoldable pub format : ℕ → List Numbered → Outcome Format
format i ws = then (then (fold format_turn (option no_options) ws) format_end) (judged i)
