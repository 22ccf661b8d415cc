-- The lines at some places in order: by their bytes, ASCII case ignored, and a line before all that begin with it.
use Rattle.std.specs.Prelude.{ℕ, ◌+◌, ◌≤◌, ◌<◌, eqb, ltb, length, get_or, take, drop, Bool, true, false, List, [], ◌∷◌, ◌++◌, ◌≡◌, Some, None, Option}
use Rattle.block.specs.Names.{known}
use Rattle.block.specs.Sound.{names_differ}
use Rattle.lexer.specs.Base.{pick, lower}
use Rattle.naming.specs.Entries.{lines_at, new_differ, RowsJudged, Remains}
use Rattle.naming.specs.Lines.{line_at}

-- Is the first text before the second, ASCII case ignored?
unfoldable pub before : List ℕ → List ℕ → Bool
before [] [] = false
before [] (b ∷ r) = true
before (a ∷ l) [] = false
before (a ∷ l) (b ∷ r) = let more = before l r in pick (eqb (lower a) (lower b)) more (ltb (lower a) (lower b))

-- Each line is before those at all later places.
pub record Rising (b places : List ℕ) : Type 0 where
  pub each : (i k : ℕ) → i < k → k < length places → before (line_at b (get_or places i 0)) (line_at b (get_or places k 0)) ≡ true

-- So many lines are before the line at a place, and the others are not.
pub record Parted (b : List ℕ) (at : ℕ) (places : List ℕ) (n : ℕ) : Type 0 where
  pub within : n ≤ length places
  pub front : (k : ℕ) → k < n → before (line_at b (get_or places k 0)) (line_at b at) ≡ true
  pub behind : (k : ℕ) → n ≤ k → k < length places → before (line_at b (get_or places k 0)) (line_at b at) ≡ false

-- A place more, behind so many.
unfoldable pub inserted : ℕ → ℕ → List ℕ → List ℕ
inserted at n places = take n places ++ (at ∷ drop n places)

-- A line was looked for among those at so many places in order, and inserted where it is not among them.
pub record LineInserted (b : List ℕ) (at : ℕ) (places placed : List ℕ) (count : ℕ) (r : Bool) : Type 0 where
  pub told : r ≡ known (line_at b at) (lines_at b (take count places))
  pub more : r ≡ false → (m : List ℕ) → known m (lines_at b (take (count + 1) placed)) ≡ known m (lines_at b (take count places) ++ (line_at b at ∷ []))
  pub rising : r ≡ false → Rising b (take (count + 1) placed)

-- The names of so many rows were inserted, with any rows behind them: two are alike; or none is, and the rows behind remain to be judged.
pub record NamesInserted (b : List ℕ) (characters at rows : ℕ) (placed : List ℕ) (r : Option ℕ) : Type 0 where
  pub twice : r ≡ None → (later : ℕ) → RowsJudged b characters at (rows + later) names_differ false
  pub rising : (next : ℕ) → r ≡ Some next → Rising b (take rows placed)
  pub rest : (next : ℕ) → r ≡ Some next → (later : ℕ)
      → Remains b characters at (rows + later) names_differ next later (new_differ (lines_at b (take rows placed)))

-- The names of so many rows were held against each other and against those of so many rows behind them: two are alike; or the rows behind remain to
-- be judged.
pub record RowsHeld (b : List ℕ) (characters at rows later : ℕ) (r : Option ℕ) : Type 0 where
  pub twice : r ≡ None → RowsJudged b characters at (rows + later) names_differ false
  pub rest : (next : ℕ) → r ≡ Some next → Remains b characters at (rows + later) names_differ next later names_differ
