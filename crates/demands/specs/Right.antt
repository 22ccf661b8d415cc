-- Demand 2 about the read call: for every text, work memory and buffer, what it answers and leaves.
use Rattle.std.specs.Prelude.{ℕ, ◌+◌, ◌*◌, ◌≤◌, ◌<◌, length, drop, true, false, ◌≡◌, Ok, Err, Result}
use Rattle.block.specs.Blocks.{Data, in_data, State, at_start, step}
use Rattle.block.specs.Commands.{Command, command, words}
use Rattle.block.specs.Dimensions.{dimensions}
use Rattle.block.specs.Faults.{Whole, QuoteMark, CommentMark, FaultAt}
use Rattle.block.specs.Format.{Format, default_format, format}
use Rattle.block.specs.LabelOrder.{LabelsFollow}
use Rattle.block.specs.Outcome.{Outcome, done, fold}
use Rattle.block.specs.Parse.{fault, read}
use Rattle.block.specs.Reading.{Taxon, Reading}
use Rattle.block.specs.Sequential.{names}
use Rattle.block.specs.Sound.{Sound, label_texts}
use Rattle.block.specs.TaxonOrder.{commands_of, all_named, MatrixOf, Follows}
use Rattle.block.specs.declared.dimension.Dimensions.{Dimensions}
use Rattle.lexer.specs.Base.{bytes}
use Rattle.lexer.specs.Places.{place, nowhere}
use Rattle.lexer.specs.Refusals as Refusals
use Rattle.lexer.specs.Refusals.{number}
use Rattle.lexer.specs.Tokens.{tokens, left_open}
use Rattle.lexer.specs.Utf8.{utf8}
use Rattle.lexer.specs.Words.{Numbered, numbered, is}
use Rattle.lexer.specs.declared.Place.{Place}
use Rattle.lexer.specs.declared.refusal.Refusal.{Refusal}
use Rattle.record.specs.Demands.{Reads, Taken}
use Rattle.record.specs.Spell.{spell}
use Rattle.record.specs.Unspell.{unspell}
use mathlib.Core.List.{List, ◌∷◌, ◌++◌, Memᴰ}
use Rattle.std.proofs.Math.Option.{some}
use Rattle.lexer.specs.declared.Fault.{Fault}

-- A command among these with this first word: the commands before it lead to the data block whose name has this index.
pub record StandsIn (cs : List Command) (block : ℕ) (keyword : List ℕ) : Type 0 where
  pub before : List Command
  pub head : Numbered
  pub raw : List Numbered
  pub after : List Command
  pub here : cs ≡ before ++ (command head raw ∷ after)
  pub word : is keyword head ≡ true
  pub state : State
  pub reached : fold step at_start before ≡ done state
  pub block_data : Data
  pub inside : state.phase ≡ in_data block block_data

-- There is such a command, and each such command declares this: its value, by its first word and the tokens behind that.
pub record Declared {X : Type 0} (cs : List Command) (block : ℕ) (keyword : List ℕ) (value : Numbered → List Numbered → Outcome X) (x : X) : Type 0 where
  pub stands : StandsIn cs block keyword
  pub each : (c : StandsIn cs block keyword) → value c.head c.raw ≡ done x

-- The DIMENSIONS command of the block declares these dimensions.
abbrev pub Dimensioned : List Command → ℕ → Dimensions → Type 0
Dimensioned cs block x = Declared cs block (bytes "DIMENSIONS") (λ head raw. dimensions (words raw)) x

-- The format of the block: that which its FORMAT command gives, or, where none stands in it, the default.
pub data Formatted (cs : List Command) (block : ℕ) : Format → Type 0 where
  given : {f : Format} → Declared cs block (bytes "FORMAT") (λ head raw. format head.index (words raw)) f → Formatted cs block f
  default : ¬ StandsIn cs block (bytes "FORMAT") → Formatted cs block default_format

-- What a text's reading is to be.
pub record RightReading (text : List ℕ) (s : Reading) : Type 0 where
  -- the MATRIX command of the text, and the DIMENSIONS command before it in its block
  pub matrix : MatrixOf (commands_of text)
  pub dimensions : Dimensioned matrix.before matrix.block matrix.dimensions
  -- the format by which its rows are read, that of the FORMAT command before it in its block, or the default; and the data type and the symbols,
  -- in their order, are those of this format
  pub formatted : Formatted matrix.before matrix.block matrix.shape.format
  pub data_type : s.data_type ≡ matrix.shape.format.data_type
  pub symbols : s.symbols ≡ matrix.shape.format.symbols
  -- there are as many characters as its NCHAR says, and each row has exactly so many cells
  pub characters : length s.characters ≡ matrix.dimensions.characters
  pub cells : (t : Taxon) → Memᴰ t s.taxa → length t.cells ≡ matrix.dimensions.characters
  -- there are as many taxa as the matrix has rows, and they follow any declared order: the k-th taxon has the k-th declared name and the cells
  -- of the row with that name; where no names are declared, the taxa are the rows as they come
  pub taxa : length s.taxa ≡ length matrix.rows
  pub order : Follows matrix.block_data.taxa matrix.rows s.taxa
  -- each name, label and state label is that of a token of the text
  pub named : all_named (numbered 0 (tokens text)) (names s.taxa)
  pub labelled : all_named (numbered 0 (tokens text)) (label_texts s.characters)
  -- labels and state labels belong to the characters to which the label commands give them
  pub labels : LabelsFollow (commands_of text) s.characters
  -- the other conditions of a record: indices, symbols, names that differ, counts, no ordered DNA
  pub sound : Sound s

-- The cases, in document 01's order. Each is about the text and about lengths alone, and each leaves out those before it.

-- The text is longer than 1,048,576 bytes.
abbrev pub TooLong : List ℕ → Type 0
TooLong text = 1048576 < length text

-- It is not, and work memory has fewer than 4n + 64 numbers.
abbrev pub MemoryShort : List ℕ → ℕ → Type 0
MemoryShort text work = (length text ≤ 1048576) × (work < 4 * length text + 64)

-- Neither (`Taken`), and the text is not UTF-8.
abbrev pub NotUtf8 : List ℕ → ℕ → Type 0
NotUtf8 text work = Taken text work × (utf8 text ≡ false)

-- It is UTF-8, and leaves a quote or a comment open.
abbrev pub LeftOpen : List ℕ → ℕ → Refusal → Type 0
LeftOpen text work why = Taken text work × (utf8 text ≡ true) × (left_open (tokens text) ≡ some why)

-- It leaves nothing open (`Whole`), and its tokens are refused.
abbrev pub TokensRefused : List ℕ → ℕ → Refusal → Place → Type 0
TokensRefused text work n p = Taken text work × Whole text × (read text ≡ fault n p)

-- It has a reading, and the record is longer than the buffer; or it is not.
abbrev pub NoRoom : List ℕ → ℕ → ℕ → Reading → Type 0
NoRoom text work room s = Taken text work × Reads text s × (room < length (spell s))

abbrev pub HasRecord : List ℕ → ℕ → ℕ → Reading → Type 0
HasRecord text work room s = Taken text work × Reads text s × (length (spell s) ≤ room)

-- One of the cases.
pub data ReadCase (text : List ℕ) (work room : ℕ) : Type 0 where
  too_long : TooLong text → ReadCase text work room
  memory_short : MemoryShort text work → ReadCase text work room
  not_utf8 : NotUtf8 text work → ReadCase text work room
  open_quote : LeftOpen text work Refusal.OpenQuote → ReadCase text work room
  open_comment : LeftOpen text work Refusal.OpenComment → ReadCase text work room
  tokens_refused : (n : Refusal) (p : Place) → TokensRefused text work n p → ReadCase text work room
  no_room : (s : Reading) → NoRoom text work room s → ReadCase text work room
  recorded : (s : Reading) → HasRecord text work room s → ReadCase text work room

-- The number of a case, and that of an answer: 0 where nothing is refused.
unfoldable pub case_number : {text : List ℕ} {work room : ℕ} → ReadCase text work room → ℕ
case_number (too_long h) = 1
case_number (memory_short h) = 2
case_number (not_utf8 h) = 3
case_number (open_quote h) = 4
case_number (open_comment h) = 5
case_number (tokens_refused n p h) = number n
case_number (no_room s h) = 30
case_number (recorded s h) = 0

unfoldable pub answer_number : Result ℕ (Fault Place) → ℕ
answer_number (Ok n) = 0
answer_number (Err f) = number f.0

-- The answer is a refusal with this number, at this place, and the buffer is as it was.
pub record RefusedSo (n : ℕ) (p : Place) (buffer after : List ℕ) (r : Result ℕ (Fault Place)) : Type 0 where
  pub why : Refusal
  pub numbered : number why ≡ n
  pub answer : r ≡ Err (Refusals.fault why p)
  pub untouched : after ≡ buffer

-- The answer is the length of the record of a reading, the buffer begins with the record, and behind it is as it was.
pub record RecordedSo (text : List ℕ) (s : Reading) (buffer after : List ℕ) (r : Result ℕ (Fault Place)) : Type 0 where
  pub answer : r ≡ Ok (length (spell s))
  pub left : after ≡ spell s ++ drop (length (spell s)) buffer
  -- the record reads back as this reading, and so as no other
  pub back : unspell (spell s) ≡ some s
  -- the reading is right
  pub right : RightReading text s

-- A text, work memory and a buffer are lent; work memory is then `work_after`, the buffer `after`, and the answer is `r`. `nowhere` is line 0,
-- column 0.
pub record RightlyRead (text work work_after buffer after : List ℕ) (r : Result ℕ (Fault Place)) : Type 0 where
  -- one of the cases applies, and whichever does has the answer's number: so no two do, and a number is answered in its own case alone
  pub decided : ReadCase text (length work) (length buffer)
  pub alone : (x : ReadCase text (length work) (length buffer)) → answer_number r ≡ case_number x
  -- what is answered and left in each
  -- 1, 2 and 3
  pub too_long : TooLong text → RefusedSo 1 nowhere buffer after r
  pub memory_short : MemoryShort text (length work) → RefusedSo 2 nowhere buffer after r
  pub not_utf8 : NotUtf8 text (length work) → RefusedSo 3 nowhere buffer after r
  -- 4 and 5, at the opening mark, of nested comments the outermost
  pub open_quote : LeftOpen text (length work) Refusal.OpenQuote → (at : ℕ) × QuoteMark text at × RefusedSo 4 (place text at) buffer after r
  pub open_comment : LeftOpen text (length work) Refusal.OpenComment → (at : ℕ) × CommentMark text at × RefusedSo 5 (place text at) buffer after r
  -- 6 to 29: the number and place of the definition, which are those of `FaultAt`: 6 at 1,1 where there is no token; else at the token where
  -- reading stops and the number may stand, everything before it being taken
  pub tokens_refused : (n : Refusal) (p : Place) → TokensRefused text (length work) n p
      → RefusedSo (number n) p buffer after r × (6 ≤ number n) × (number n ≤ 29) × FaultAt text n p
  -- 30, last
  pub no_room : (s : Reading) → NoRoom text (length work) (length buffer) s → RefusedSo 30 nowhere buffer after r
  -- no refusal: the record of the reading
  pub recorded : (s : Reading) → HasRecord text (length work) (length buffer) s → RecordedSo text s buffer after r
  -- work memory keeps its length; what it holds is free
  pub size : length work_after ≡ length work
