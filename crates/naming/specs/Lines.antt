-- The lines of a record where they stand, up to their LF.
use Rattle.std.specs.Prelude.{ℕ, ◌<◌, ◌≤◌, eqb, length, drop, false, List, [], ◌∷◌, ◌++◌, ◌≡◌, Some, None, Option}
use Rattle.lexer.specs.Base.{pick, alike, byte}

-- The bytes in front of the first LF.
unfoldable pub to_end : List ℕ → List ℕ
to_end [] = []
to_end (b ∷ r) = let more = b ∷ to_end r in pick (eqb b (byte "\n")) [] more

-- The line that stands at a place, without its LF.
unfoldable pub line_at : List ℕ → ℕ → List ℕ
line_at b i = to_end (drop i b)

-- The place behind the bytes of the line at a place that are like these; none where they are not, so that no text that begins with them is like the
-- line.
pub record BytesLike (b : List ℕ) (i : ℕ) (front : List ℕ) (r : Option ℕ) : Type 0 where
  pub none : r ≡ None → (m : List ℕ) → alike (front ++ m) (line_at b i) ≡ false
  pub some : (j : ℕ) → r ≡ Some j → (m : List ℕ) → alike (front ++ m) (line_at b i) ≡ alike m (line_at b j)
  pub within : (j : ℕ) → r ≡ Some j → (i < j) × (j ≤ length b)
