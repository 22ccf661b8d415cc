-- The cells of a row by the codes of a format's symbols, and what the code keeps of a row while it is put.
use Rattle.std.specs.Prelude.{ℕ, suc, ◌+◌, ◌-◌, ◌/◌, ◌%◌, ◌≤◌, ◌<◌, eqb, ltb, length, get_or, set as put_at, Bool, true, ◌||◌, not, List, [], ◌∷◌, ◌++◌, ◌≡◌}
use Rattle.block.specs.Cell.{Cell, state, uncertain, missing, gap}
use Rattle.emit.specs.Puts.{Puts}
use Rattle.lexer.specs.Base.{pick, byte, is_empty}
use Rattle.lexer.specs.Words.{Numbered, punct, is_word}
use Rattle.matrix.specs.Taken.{also}
use Rattle.reading.specs.Pieces.{spell_on}
use Rattle.reading.specs.declared.cells.Putting.{Putting}
use Rattle.record.specs.Decimal.{decimal}
use Rattle.record.specs.Spell.{spell_cell}
use Rattle.std.proofs.Math.Option.{Option, none, some}

-- The members of a set whose marks are these, the first of them of a state: the states whose mark is not 0, rising.
unfoldable pub members : ℕ → List ℕ → List ℕ
members k [] = []
members k (b ∷ r) = let more = members (suc k) r in let this = k ∷ more in pick (eqb b 0) more this

-- The marks of the four states of DNA in a set's bits.
unfoldable pub marks : ℕ → List ℕ
marks bits = bits % 2 ∷ bits / 2 % 2 ∷ bits / 4 % 2 ∷ bits / 8 ∷ []

-- The cell of a code.
unfoldable pub decoded : ℕ → Option Cell
decoded code =
    let set = some (uncertain (members 0 (marks (code - 96)))) in
    pick (ltb code 96) (some (state code))
    (pick (ltb code 112) set
    (pick (eqb code 126) (some missing)
    (pick (eqb code 127) (some gap)
    none)))

-- The byte that the cell of a code is, or 0 where it takes more or there is none: a state below 10 is a digit, missing is `m` and a gap `g`.
unfoldable pub cell_byte : ℕ → ℕ
cell_byte code = pick (ltb code 10) (byte "0" + code) (pick (eqb code 126) (byte "m") (pick (eqb code 127) (byte "g") 0))

-- A cell, if there is one, in front of what stands behind it.
unfoldable pub spell_maybe : Option Cell → List ℕ → List ℕ
spell_maybe none behind = behind
spell_maybe (some c) behind = spell_cell c ++ behind

-- States of a set, the first of all or behind others: each but the first of all has a dot before it.
unfoldable pub dotted_on : Bool → List ℕ → List ℕ → List ℕ
dotted_on begun [] behind = behind
dotted_on begun (i ∷ r) behind = let this = decimal i ++ dotted_on true r behind in pick begun (byte "." ∷ this) this

-- The cells of the bytes of a word, by their codes.
unfoldable pub cells_coded : List ℕ → List ℕ → List Cell
cells_coded codes [] = []
cells_coded codes (b ∷ r) = let more = cells_coded codes r in also (decoded (get_or codes b 0)) more

-- Has a word cells? Besides a word only the mark `+` can be a symbol.
unfoldable pub has_cells : Numbered → Bool
has_cells w = is_word w.token.kind || punct (byte "+") w

unfoldable pub word_coded : List ℕ → Numbered → List Cell
word_coded codes w = let cells = cells_coded codes w.token.text in pick (has_cells w) cells []

-- Cells were put behind those of a row: the next place is behind them, and so many fewer are lacking.
pub record RowPut (before : List ℕ) (row : Putting) (cells : List Cell) (after : List ℕ) (next : Putting) : Type 0 where
  pub put : Puts before row.at (spell_on row.started cells) after next.at
  pub begun : next.started ≡ row.started || not (is_empty cells)
  pub lacking : next.left ≡ row.left - length cells

-- The marks of a set with several states more, and one more than the largest of them.
unfoldable pub marked : List ℕ → List ℕ → List ℕ
marked [] set = set
marked (i ∷ r) set = marked r (put_at set i 1)

unfoldable pub topped : List ℕ → ℕ → ℕ
topped [] top = top
topped (i ∷ r) top = topped r (pick (ltb i top) top (i + 1))

-- The marks of a set after those up to an end were made 0.
pub record Cleared (before : List ℕ) (top : ℕ) (after : List ℕ) : Type 0 where
  pub kept : length after ≡ length before
  pub marks : (k : ℕ) → get_or after k 0 ≡ pick (ltb k top) 0 (get_or before k 0)

-- The codes of bytes.
unfoldable pub codes_of : List ℕ → List ℕ → List ℕ
codes_of codes [] = []
codes_of codes (b ∷ r) = get_or codes b 0 ∷ codes_of codes r

-- States below 10 by the bytes of a word: a mark and a digit each, and the mark of all but the first is a dot.
unfoldable pub marked_digits : List ℕ → ℕ → List ℕ → List ℕ → List ℕ
marked_digits codes m [] behind = behind
marked_digits codes m (b ∷ r) behind = m ∷ (byte "0" + get_or codes b 0) ∷ marked_digits codes (byte ".") r behind

-- The codes of the bytes of a text from a place up to an end are below 10.
pub record Digits (codes text : List ℕ) (from end : ℕ) : Type 0 where
  pub ahead : from ≤ end
  pub within : end ≤ length text
  pub each : (k : ℕ) → from ≤ k → k < end → get_or codes (get_or text k 0) 0 < 10

-- The letter of a set by its opening mark.
unfoldable pub letter_of : ℕ → ℕ
letter_of b = pick (eqb b (byte "{")) (byte "u") (byte "p")
