-- The weight of a word is the length of its text.
use Rattle.std.specs.Prelude.{ℕ, ◌+◌, length, List, [], ◌∷◌}
use Rattle.lexer.specs.Words.{Numbered}

-- A sum over a list.
module _ {A : Type 0} where
  abbrev pub total : (A → ℕ) → List A → ℕ
  total f [] = 0
  total f (a ∷ r) = f a + total f r

abbrev pub weight : Numbered → ℕ
weight w = length w.token.text

abbrev pub weights : List Numbered → ℕ
weights ws = total weight ws
