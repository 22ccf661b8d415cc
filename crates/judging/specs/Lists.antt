-- Parts of a record that stand one behind another, numbered, so many.
use Rattle.std.specs.Prelude.{ℕ, suc, length, List, [], ◌∷◌, ◌++◌, ◌≡◌}
use Rattle.judging.specs.Tells.{Part, Tells}

module _ {A : Type 0} where
  -- Each is good as what its number makes it, the first of them with this number.
  abbrev pub Each : (ℕ → A → Type 0) → ℕ → List A → Type 0
  Each good k [] = Unit {0}
  Each good k (a ∷ r) = good k a × Each good (suc k) r

  -- There are so many, and each is good.
  pub record Listed (good : ℕ → A → Type 0) (k n : ℕ) (l : List A) : Type 0 where
    pub count : length l ≡ n
    pub each : Each good k l

  -- They are spelled one behind another.
  unfoldable pub spelled_all : (ℕ → A → List ℕ) → ℕ → List A → List ℕ
  spelled_all spelled k [] = []
  spelled_all spelled k (a ∷ r) = spelled k a ++ spelled_all spelled (suc k) r

module _ {A T : Type 0} where
  -- What is told of them all, joined to what was told before.
  unfoldable pub told_all : (A → T) → (T → T → T) → T → List A → T
  told_all tell join before [] = before
  told_all tell join before (a ∷ r) = told_all tell join (join before (tell a)) r

  -- So many parts from a place on, the first of them with this number: what judging them tells.
  abbrev pub ListTold : List ℕ → (ℕ → A → Type 0) → (ℕ → A → List ℕ) → (A → T) → (T → T → T) → ℕ → ℕ → ℕ → T → Part T → Type 0
  ListTold b good spelled tell join i k n before r = Tells b i (Listed good k n) (spelled_all spelled k) (told_all tell join before) r
