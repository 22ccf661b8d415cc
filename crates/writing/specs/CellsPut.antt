-- Cells of a record, put as the written form has them.
use Rattle.std.specs.Prelude.{ℕ, ◌+◌, ◌*◌, ◌-◌, ◌<◌, ◌≤◌, leb, length, drop, get_or, Bool, true, ◌&&◌, List, ◌∷◌, ◌++◌, ◌≡◌}
use Rattle.block.specs.Cell.{Cell}
use Rattle.block.specs.Sound.{sound_cell, sound_cells, sound_set}
use Rattle.block.specs.declared.data.DataType.{DataType}
use Rattle.emit.specs.Puts.{Puts}
use Rattle.lexer.specs.Base.{pick, byte}
use Rattle.record.specs.Form.{form_cell, form_cells, form_set}
use Rattle.record.specs.Spell.{dotted, spell_cell, spell_cells}
use Rattle.writing.specs.FormPut.{PutLine}
use Rattle.writing.specs.Signs.{Signed}
use Rattle.writing.specs.declared.Putting.{Putting}
use Rattle.writing.specs.declared.cells.Sign.{Sign}

-- Are both bytes digits?
unfoldable pub two_digits : ℕ → ℕ → Bool
two_digits y z = leb (byte "0") y && leb y (byte "9") && (leb (byte "0") z && leb z (byte "9"))

-- The sign of what begins with a byte, and a next byte: an index of two digits, or a cell or an index of one byte. And how many bytes it has.
unfoldable pub sign_here : List ℕ → ℕ → ℕ → ℕ
sign_here signs y z = pick (two_digits y z) (get_or signs (128 + ((y - byte "0") * 10 + (z - byte "0"))) 0) (get_or signs y 0)

unfoldable pub size_here : ℕ → ℕ → ℕ
size_here y z = pick (two_digits y z) 2 1

-- The sign that was read at a place.
pub record SignRead (b signs : List ℕ) (at : ℕ) (r : Sign) : Type 0 where
  pub sign : r.sign ≡ sign_here signs (get_or b at 0) (get_or b (at + 1) 0)
  pub next : r.at ≡ at + size_here (get_or b at 0) (get_or b (at + 1) 0)

-- A cell of one byte and a blank stand at a place, and this is its sign.
pub record ShortRead (b signs : List ℕ) (at s : ℕ) : Type 0 where
  pub inside : at + 1 < length b
  pub blank : get_or b (at + 1) 0 ≡ byte " "
  pub sign : s ≡ get_or signs (get_or b at 0) 0

-- A text that stands at a place was put as a piece: the next place of the record is behind the text, and that of the buffer behind the piece.
pub record TextPut (at : ℕ) (text : List ℕ) (before : List ℕ) (n : ℕ) (piece : List ℕ → List ℕ) (after : List ℕ) (r : Putting) : Type 0 where
  pub next : r.at ≡ at + length text
  pub put : Puts before n piece after r.n

-- A set of states between two signs.
unfoldable pub form_within : ℕ → ℕ → List ℕ → List ℕ → List ℕ → List ℕ
form_within first last symbols s behind = first ∷ form_set symbols s (last ∷ behind)

-- Where the states of a sound set stand, and behind them a byte that is no dot and no digit, they are put as a piece.
abbrev pub SetPut : (List ℕ → List ℕ → List ℕ → List ℕ) → List ℕ → List ℕ → ℕ → List ℕ → ℕ → List ℕ → Putting → Type 0
SetPut piece b signs at before n after r =
    (t : DataType) (symbols : List ℕ) → Signed t symbols signs → (s : List ℕ) (x : ℕ) (rest : List ℕ) → x < byte "." → sound_set (length symbols) s ≡ true
    → drop at b ≡ dotted s ++ (x ∷ rest) → TextPut at (dotted s) before n (piece symbols s) after r

-- Where a sound cell stands, and such a byte behind it, it is put.
abbrev pub CellPut : List ℕ → List ℕ → ℕ → List ℕ → ℕ → List ℕ → Putting → Type 0
CellPut b signs at before n after r =
    (t : DataType) (symbols : List ℕ) → Signed t symbols signs → (c : Cell) (x : ℕ) (rest : List ℕ) → x < byte "." → sound_cell (length symbols) c ≡ true
    → drop at b ≡ spell_cell c ++ (x ∷ rest) → TextPut at (spell_cell c) before n (form_cell t symbols c) after r

-- Some sound cells and an LF stand at a place.
pub record RowHere (b : List ℕ) (states at : ℕ) (cs : List Cell) (rest : List ℕ) : Type 0 where
  pub some : 1 ≤ length cs
  pub sound : sound_cells states cs ≡ true
  pub here : drop at b ≡ spell_cells cs ++ (byte "\n" ∷ rest)

-- Some cells of a row are left: where they begin, and whatever puts them makes all cells of the row put.
pub record RowLeft (t : DataType) (symbols b : List ℕ) (from : ℕ) (cs : List Cell) (rest before : List ℕ) (n : ℕ) (after : List ℕ) (r : Putting) : Type 0 where
  pub left : List Cell
  pub row : RowHere b (length symbols) r.at left rest
  pub ahead : r.at + length (spell_cells left) ≡ from + length (spell_cells cs)
  pub back : (last : List ℕ) (next : ℕ) → Puts after r.n (form_cells t symbols left) last next → Puts before n (form_cells t symbols cs) last next

-- Where a row stands, some of its cells were put, and some are left.
abbrev pub RunPut : List ℕ → List ℕ → ℕ → List ℕ → ℕ → List ℕ → Putting → Type 0
RunPut b signs from before n after r =
    (t : DataType) (symbols : List ℕ) → Signed t symbols signs → (cs : List Cell) (rest : List ℕ) → RowHere b (length symbols) from cs rest
    → RowLeft t symbols b from cs rest before n after r

-- Where a row stands, its cells are put.
abbrev pub CellsPut : List ℕ → List ℕ → ℕ → List ℕ → ℕ → List ℕ → Putting → Type 0
CellsPut b signs from before n after r =
    (t : DataType) (symbols : List ℕ) → Signed t symbols signs → (cs : List Cell) (rest : List ℕ) → RowHere b (length symbols) from cs rest
    → PutLine b from (spell_cells cs) before n (form_cells t symbols cs) after r
