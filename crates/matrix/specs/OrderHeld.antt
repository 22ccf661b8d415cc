-- Rows in declared order, as work memory holds them: for each declared name the number of its row.
use Rattle.std.specs.Prelude.{ℕ, zero, suc, ◌<◌, length, get_or, take, Bool, true, List, [], ◌∷◌, ◌≡◌, Some, None, Ok, Result, ⊤}
use Rattle.block.specs.Blocks.{arranged}
use Rattle.block.specs.Cell.{Cell}
use Rattle.block.specs.Commands.{words}
use Rattle.block.specs.Judged.{judged}
use Rattle.block.specs.NamesHeld.{names_of}
use Rattle.block.specs.Reading.{Taxon}
use Rattle.block.specs.Sequential.{names}
use Rattle.block.specs.Sound.{names_differ}
use Rattle.lexer.specs.Base.{pick, alike}
use Rattle.lexer.specs.Stored.{range}
use Rattle.matrix.specs.Lines.{names_stored, stored}
use Rattle.std.proofs.Math.Option.{Option, none, some}
use Rattle.std.specs.Prelude as Std
use Rattle.lexer.specs.declared.Fault.{Fault}

-- The place of the first name alike among others, counted from a number on.
unfoldable pub place_from : List ℕ → ℕ → List (List ℕ) → Option ℕ
place_from n k [] = none
place_from n k (m ∷ r) = let more = place_from n (suc k) r in pick (alike n m) (some k) more

unfoldable pub place_of : List ℕ → List (List ℕ) → Option ℕ
place_of n names = place_from n 0 names

-- A place that was found is below a count.
abbrev pub IndexBelow : ℕ → Std.Option ℕ → Type 0
IndexBelow rows (Some k) = k < rows
IndexBelow rows None = Unit {0}

-- The cells of a row by its number.
unfoldable pub cells_at : List Taxon → ℕ → List Cell
cells_at [] j = []
cells_at (t ∷ r) zero = t.cells
cells_at (t ∷ r) (suc j) = cells_at r j

-- The rows of declared names, whose numbers stand in work memory from an index on, under those names.
unfoldable pub ordered : List Taxon → List ℕ → ℕ → List (List ℕ) → List Taxon
ordered rows work at [] = []
ordered rows work at (n ∷ ns) = let more = ordered rows work (suc at) ns in record { name = n; cells = cells_at rows (get_or work at 0) } ∷ more

-- Each of these numbers is below a bound.
unfoldable pub all_below : ℕ → List ℕ → Type 0
all_below bound [] = Unit {0}
all_below bound (s ∷ r) = (s < bound) × all_below bound r

-- What arranging leaves and answers, for any rows that have the stored names, which differ and whose tokens stand in front of what is stored.
pub record Arranged (text before after : List ℕ) (lines rows from to at head : ℕ) (r : Result ⊤ (Fault ℕ)) : Type 0 where
  pub size : length after ≡ length before
  pub kept : take at after ≡ take at before
  pub each : (taken : List Taxon) → names taken ≡ names_stored text before (stored before lines rows) → all_below at (stored before lines rows) → names_differ (names taken) ≡ true
      → judged (ordered taken after at (names_of (words (range text before from to)))) r ≡ arranged head taken (names_of (words (range text before from to)))

-- The declared names were held against the stored rows, one after the other: where each is the name of its row, they are arranged.
pub record OrderTried (text before after : List ℕ) (lines rows from to at : ℕ) (r : Bool) : Type 0 where
  pub size : length after ≡ length before
  pub kept : take at after ≡ take at before
  pub good : r ≡ true → (head : ℕ) → Arranged text before after lines rows from to at head (Ok tt)
