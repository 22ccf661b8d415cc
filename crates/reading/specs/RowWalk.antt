-- A row that is put word by word: what the code keeps of it stands for the row of the definition.
use Rattle.std.specs.Prelude.{ℕ, ◌+◌, ◌≤◌, ◌<◌, eqb, length, get_or, Bool, false, List, [], ◌∷◌, ◌≡◌, Some, None, Option}
use Rattle.block.specs.Chunk.{Row, plain, within, set_cell}
use Rattle.block.specs.Commands.{newline}
use Rattle.block.specs.Format.{Format}
use Rattle.block.specs.declared.kinds.Bracket.{Bracket}
use Rattle.lexer.specs.Stored.{word_of}
use Rattle.lexer.specs.Words.{Numbered}
use Rattle.matrix.specs.Taken.{cells_in, taken, word_taken}
use Rattle.matrix.specs.WholeSets.{WholeSet}
use Rattle.reading.specs.CodedCells.{RowPut, codes_of, members, word_coded}
use Rattle.reading.specs.declared.cells.Putting.{Putting}
use Rattle.reading.specs.declared.lines.Walk.{Walk}

-- A row before its first word: so many cells are lacking, and no set is open.
abbrev pub begun : ℕ → Bool → ℕ → Walk
begun n started left = record { row = record { at = n; started = started; left = left }; opened = None; top = 0 }

-- Is no cell of a row lacking, and no set open?
unfoldable pub full_with : Option Bracket → ℕ → Bool
full_with None left = eqb left 0
full_with (Some k) left = false

unfoldable pub full : Walk → Bool
full walk = full_with walk.opened walk.row.left

-- The set that is open in a row, if one is.
unfoldable pub open_in : Row → Option Bracket
open_in (plain cells) = None
open_in (within cells k i s) = Some k

-- The states of the set that is open in a row; none if none is.
unfoldable pub states_in : Row → List ℕ
states_in (plain cells) = []
states_in (within cells k i s) = s

-- The marks of a set are 0 from an end on.
abbrev pub Clean : List ℕ → ℕ → Type 0
Clean set top = (k : ℕ) → top ≤ k → get_or set k 0 ≡ 0

-- The cells of a row are put; which set is open is known, and its states by the 96 marks, which are 0 from an end on.
pub record Walking (before : List ℕ) (from : Putting) (row : Row) (buffer set : List ℕ) (walk : Walk) : Type 0 where
  pub put : RowPut before from (cells_in row) buffer walk.row
  pub opened : walk.opened ≡ open_in row
  pub size : length set ≡ 96
  pub marked : members 0 set ≡ states_in row
  pub clean : Clean set walk.top

-- One word more was put. The buffer keeps its length and the end of the marks is at most their count; and whatever format gives the word the cells of
-- its codes, and whatever row was put, the row with the word is put.
pub record WordPut (codes : List ℕ) (w : Numbered) (buffer set : List ℕ) (walk : Walk) (after marks : List ℕ) (next : Walk) : Type 0 where
  pub kept : length after ≡ length buffer
  pub within : next.top ≤ 96
  pub grown : (f : Format) → word_coded codes w ≡ word_taken f w → (before : List ℕ) (from : Putting) (row : Row) → Walking before from row buffer set walk
      → Walking before from (taken f row w) after marks next

-- A whole set was put, which the word of an index and the two behind it are.
pub record SetPut (codes text starts : List ℕ) (to i : ℕ) (buffer set : List ℕ) (walk : Walk) (after marks : List ℕ) (next : Walk) : Type 0 where
  pub kind : Bracket
  pub states : List ℕ
  pub words : WholeSet codes text starts i to kind states
  pub none : walk.opened ≡ None
  pub put : RowPut buffer walk.row (set_cell kind (codes_of codes states) ∷ []) after next.row
  pub opened : next.opened ≡ None
  pub top : next.top ≡ walk.top
  pub same : marks ≡ set

-- One word was put, or the three of a whole set.
pub data StepPut (codes text starts : List ℕ) (to i : ℕ) (buffer set : List ℕ) (walk : Walk) (after marks : List ℕ) (next : Walk) : ℕ → Type 0 where
  one_word : {j : ℕ} → j ≡ i + 1 → WordPut codes (word_of text starts i) buffer set walk after marks next → StepPut codes text starts to i buffer set walk after marks next j
  whole_set : {j : ℕ} → j ≡ i + 3 → SetPut codes text starts to i buffer set walk after marks next → StepPut codes text starts to i buffer set walk after marks next j

-- A row in which no set is open.
abbrev pub plain_walk : Putting → ℕ → Walk
plain_walk row top = record { row = row; opened = None; top = top }

-- Words and whole sets were put behind a row, from an index on up to another, and behind each of them cells are lacking.
pub data ToldPut (codes text starts : List ℕ) (to : ℕ) (before : List ℕ) (row : Putting) (from : ℕ) : List ℕ → Putting → ℕ → Type 0 where
  none_told : ToldPut codes text starts to before row from before row from
  more_told : {b : List ℕ} {r : Putting} {i : ℕ} {c : List ℕ} {s : Putting} {j : ℕ} → ToldPut codes text starts to before row from b r i → i < to
      → newline (word_of text starts i) ≡ false → ((set : List ℕ) (top : ℕ) → top ≤ 96 → StepPut codes text starts to i b set (plain_walk r top) c set (plain_walk s top) j)
      → (s.left ≡ 0 → ⊥) → ToldPut codes text starts to before row from c s j

-- Such words and sets were put where no set is open; or nothing was.
pub data AheadPut (codes text starts : List ℕ) (to i : ℕ) (buffer : List ℕ) (walk : Walk) : List ℕ → Walk → ℕ → Type 0 where
  nothing_put : AheadPut codes text starts to i buffer walk buffer walk i
  told_put : {row : Putting} {top : ℕ} {after : List ℕ} {next : Putting} {j : ℕ} → walk ≡ plain_walk row top → ToldPut codes text starts to buffer row i after next j
      → AheadPut codes text starts to i buffer walk after (plain_walk next top) j
