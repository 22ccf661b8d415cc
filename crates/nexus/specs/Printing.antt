-- What is to be printed.
use Rattle.std.specs.Prelude.{ℕ, ◌≤◌, length, take, List, ◌≡◌}

-- These bytes, so many, stand at the front of what is lent.
pub record InFront (bs after : List ℕ) (n : ℕ) : Type 0 where
  pub within : n ≤ length after
  pub bytes : take n after ≡ bs
