-- The next word of a command, newlines passed over.
use Rattle.std.specs.Prelude.{ℕ, ◌+◌, ◌≤◌, ◌<◌, List, [], ◌∷◌, ◌≡◌, Option, Some, None}
use Rattle.block.specs.Commands.{words}
use Rattle.lexer.specs.Stored.{word_of, range}

-- Below the end, the first of the words from an index on stands at `r`, and the others are behind it; at the end there are none.
pub record Next (text work : List ℕ) (from end r : ℕ) : Type 0 where
  pub onward : from ≤ r
  pub here : r < end → words (range text work from end) ≡ word_of text work r ∷ words (range text work (r + 1) end)
  pub past : end ≤ r → words (range text work from end) ≡ []

-- A word from an index on: the first of the words there stands at `r`, and the others are behind it.
pub record Found (text work : List ℕ) (from end r : ℕ) : Type 0 where
  pub onward : from ≤ r
  pub within : r < end
  pub here : words (range text work from end) ≡ word_of text work r ∷ words (range text work (r + 1) end)

-- The next word from an index on, or none.
pub record Ahead (text work : List ℕ) (from end : ℕ) (r : Option ℕ) : Type 0 where
  pub some : (j : ℕ) → r ≡ Some j → Found text work from end j
  pub none : r ≡ None → words (range text work from end) ≡ []
