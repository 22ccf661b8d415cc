-- Cells of one byte, each with a blank behind it, eight at once.
use Rattle.std.specs.Prelude.{ℕ, zero, suc, ◌+◌, ◌*◌, ◌<◌, eqb, leb, get_or, Bool, true, false, ◌&&◌, ◌||◌, List, ◌≡◌}
use Rattle.lexer.specs.Base.{byte}

-- A byte is between two bytes, or one of two others.
abbrev pub held : ℕ → ℕ → ℕ → ℕ → ℕ → Bool
held low high one other x = leb low x && leb x high || eqb x one || eqb x other

-- Each of so many bytes from a place on is so.
pub record AllHeld (b : List ℕ) (at : ℕ) (low high one other : List ℕ) (n : ℕ) : Type 0 where
  pub each : (i : ℕ) → i < n → held (get_or low i 0) (get_or high i 0) (get_or one i 0) (get_or other i 0) (get_or b (at + i) 0) ≡ true

-- Is one of so many cells of one byte a gap?
abbrev pub gaps : List ℕ → ℕ → ℕ → Bool
gaps b at zero = false
gaps b at (suc n) = gaps b at n || eqb (get_or b (at + 2 * n) 0) (byte "g")
