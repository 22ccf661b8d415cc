-- Tables that are filled by a rule.
use Rattle.std.specs.Prelude.{ℕ, zero, suc, List, [], ◌∷◌}

module _ {X : Type 0} where
  -- The values of a rule at so many numbers, from the first one on.
  unfoldable pub tabulated : (ℕ → X) → ℕ → ℕ → List X
  tabulated f i zero = []
  tabulated f i (suc n) = f i ∷ tabulated f (suc i) n
