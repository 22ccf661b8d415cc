-- What judging the cells of a row answers: where the row ends, exactly if its cells stand there.
use Rattle.std.specs.Prelude.{ℕ, ◌+◌, ◌≤◌, length, drop, Bool, true, List, ◌∷◌, ◌++◌, ◌≡◌, Some, Option}
use Rattle.block.specs.Cell.{Cell}
use Rattle.block.specs.Sound.{sound_cells, gap_among}
use Rattle.lexer.specs.Base.{byte}
use Rattle.record.specs.Spell.{spell_cells}

-- Sound cells stand at a place, as many as there are characters, and an LF ends them; whether a gap is among them is known.
pub record CellsStand (b : List ℕ) (i characters symbols j : ℕ) (g : Bool) : Type 0 where
  pub cells : List Cell
  pub sound : sound_cells symbols cells ≡ true
  pub count : length cells ≡ characters
  pub here : drop i b ≡ spell_cells cells ++ (byte "\n" ∷ drop j b)
  pub end : j ≡ i + length (spell_cells cells) + 1
  pub gap : g ≡ gap_among cells

-- If the answer is an end, such cells stand there, up to that end; and if such cells stand there, their end is the answer.
pub record CellsJudged (b : List ℕ) (i characters symbols : ℕ) (r : Option (ℕ × Bool)) : Type 0 where
  pub found : (j : ℕ) (g : Bool) → r ≡ Some (j, g) → CellsStand b i characters symbols j g
  pub all : (cells : List Cell) (rest : List ℕ) → sound_cells symbols cells ≡ true → length cells ≡ characters → 1 ≤ characters
      → drop i b ≡ spell_cells cells ++ (byte "\n" ∷ rest) → r ≡ Some ((i + length (spell_cells cells) + 1), (gap_among cells))
