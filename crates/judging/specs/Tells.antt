-- What judging a part of a record answers that also tells something of it: where it ends and what is told, exactly if it stands there.
use Rattle.std.specs.Prelude.{ℕ, ◌+◌, length, drop, Bool, List, ◌++◌, ◌≡◌, Some, None, Option}
use Rattle.judging.specs.Judges.{Stands}

-- What judging a part comes to: an end and what is told; or nothing stands there.
pub data Part (T : Type 0) : Type 0 where
  nothing : Part T
  until : ℕ → T → Part T

-- If the answer is an end, something good stands there, up to that end, and what is told is told of it; and if something good stands there, its end
-- is the answer, with what is told of it.
pub record Tells {A T : Type 0} (b : List ℕ) (i : ℕ) (good : A → Type 0) (spelled : A → List ℕ) (tell : A → T) (r : Part T) : Type 0 where
  pub found : (j : ℕ) (v : T) → r ≡ until j v → (s : Stands b i good spelled j) × (v ≡ tell s.what)
  pub all : (what : A) (rest : List ℕ) → good what → drop i b ≡ spelled what ++ rest → r ≡ until (i + length (spelled what)) (tell what)

-- What the code's answers mean.
unfoldable pub behind_of : Option ℕ → Part (Unit {0})
behind_of (Some j) = until j tt
behind_of None = nothing

unfoldable pub number_of : Option (ℕ × ℕ) → Part ℕ
number_of (Some (v, j)) = until j v
number_of None = nothing

unfoldable pub cells_of : Option (ℕ × Bool) → Part Bool
cells_of (Some (j, g)) = until j g
cells_of None = nothing

unfoldable pub flag_of : Option (ℕ × Bool) → Part Bool
flag_of (Some (j, g)) = until j g
flag_of None = nothing

-- What is told of characters: whether one has a label or a state label, and whether one is ordered.
pub record Marks : Type 0 where
  pub labelled : Bool
  pub ordered : Bool

unfoldable pub characters_of : Option (ℕ × Bool × Bool) → Part Marks
characters_of (Some (j, l, o)) = until j (record { labelled = l; ordered = o })
characters_of None = nothing
