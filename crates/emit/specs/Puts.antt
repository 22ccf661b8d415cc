-- Bytes put into a lent buffer from a place on, one after another: those that have room are written, and the place goes on beyond the end, so that the
-- same calls measure what would be written. It stops at the largest number.
use Rattle.std.specs.Prelude.{ℕ, suc, ◌+◌, ◌-◌, ◌^◌, min, length, set, List, [], ◌∷◌, ◌≡◌}

unfoldable pub puts : List ℕ → ℕ → List ℕ → List ℕ
puts buffer at [] = buffer
puts buffer at (b ∷ r) = puts (set buffer at b) (suc at) r

-- The largest place.
unfoldable pub last_place : ℕ
last_place = 2 ^ 64 - 1

-- A piece, which takes the bytes that stand behind it, was put from a place on, and the next place is behind it.
pub record Puts (before : List ℕ) (at : ℕ) (piece : List ℕ → List ℕ) (after : List ℕ) (next : ℕ) : Type 0 where
  pub written : (behind : List ℕ) → puts before at (piece behind) ≡ puts after next behind
  pub reached : (behind : List ℕ) → min last_place (at + length (piece behind)) ≡ min last_place (next + length behind)
  pub kept : length after ≡ length before
