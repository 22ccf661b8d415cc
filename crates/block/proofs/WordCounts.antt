-- The walk that counts words. Assumes nothing.
use Prim.Native.Nat.{ℕ, ◌+◌, ◌≤◌, ◌<◌}
use Rattle.block.proofs.WalkLaws.{words-newline, words-next, words-end}
use Rattle.block.specs.Commands.{newline, words}
use Rattle.lexer.specs.Stored.{word_of, range}
use lib.ListN.{length}
use mathlib.Core.Bool.{true, false}
use mathlib.Core.List.{List}
use mathlib.Core.Path.{◌≡◌, ap}
use native.Mathlib.Omega.{arith}

-- The words from an index on, with those counted before it, are all.
pub record Counting (text work : List ℕ) (from to count i : ℕ) : Type 0 where
  pub below : count ≤ i
  pub rest : count + length (words (range text work i to)) ≡ length (words (range text work from to))

module _ (text work : List ℕ) (from to : ℕ) where
  module _ (count i : ℕ) (c : Counting text work from to count i) where
    pub counting-newline : i < to → newline (word_of text work i) ≡ true → Counting text work from to count (i + 1)
    counting-newline h e = record { below = omega (arith, c.below); rest = rw (words-newline text work i to h e) at c.rest }

    pub counting-turn : i < to → newline (word_of text work i) ≡ false → Counting text work from to (count + 1) (i + 1)
    counting-turn h e = record { below = omega (arith, c.below); rest = omega (arith, c.rest, ap length (words-next text work i to h e)) }

    pub counting-end : to ≤ i → count ≡ length (words (range text work from to))
    counting-end h = omega (arith, c.rest, ap length (words-end text work i to h))
