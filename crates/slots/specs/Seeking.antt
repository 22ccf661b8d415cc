-- A search in a table for the first of some things that are numbered from 0 on and tested: the number of one, with 1 added, is what a slot holds.
use Rattle.std.specs.Prelude.{ℕ, ◌+◌, ◌≤◌, ◌<◌, Bool, true, ◌≡◌}

-- The least that was found so far, with one slot more: the one in that slot where it is less and the test holds.
pub record Nearer (test : ℕ → Bool) (found v r : ℕ) : Type 0 where
  pub few : r ≤ found
  pub hit : r < found → test r ≡ true
  pub miss : (k : ℕ) → v ≡ k + 1 → k < r → test k ≡ true → ⊥
