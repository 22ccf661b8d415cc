-- What judging a part of a record answers: where it ends, exactly if it stands there.
use Rattle.std.specs.Prelude.{ℕ, ◌+◌, length, drop, List, ◌++◌, ◌≡◌, Some, Option}

-- What stands at a place: something good, spelled, and the rest of the bytes behind it.
pub record Stands {A : Type 0} (b : List ℕ) (i : ℕ) (good : A → Type 0) (spelled : A → List ℕ) (j : ℕ) : Type 0 where
  pub what : A
  pub sound : good what
  pub here : drop i b ≡ spelled what ++ drop j b
  pub end : j ≡ i + length (spelled what)

-- If the answer is an end, something good stands there, up to that end; and if something good stands there, its end is the answer.
pub record Judges {A : Type 0} (b : List ℕ) (i : ℕ) (good : A → Type 0) (spelled : A → List ℕ) (r : Option ℕ) : Type 0 where
  pub found : (j : ℕ) → r ≡ Some j → Stands b i good spelled j
  pub all : (what : A) (rest : List ℕ) → good what → drop i b ≡ spelled what ++ rest → r ≡ Some (i + length (spelled what))
