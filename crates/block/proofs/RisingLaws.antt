-- Laws of strictly rising indices below a count. Assumes nothing.
use Prim.Native.Nat.{ℕ, ◌<◌}
use Rattle.block.specs.Sound.{rising}
use Rattle.lexer.proofs.Basics.{and_left, and_right, and_both}
use borrow.Author.Tests.{ltb-true, lt-ltb}
use lib.Dec.{ltb}
use mathlib.Core.Bool.{true}
use mathlib.Core.List.{List, [], ◌∷◌}
use mathlib.Core.Path.{◌≡◌, refl}
use native.Mathlib.Omega.{arith}

pub rising-cons : (count i j : ℕ) (r : List ℕ) → i < j → rising count (j ∷ r) ≡ true → rising count (i ∷ j ∷ r) ≡ true
unfolding rising
rising-cons count i j r lt h = and_both (lt-ltb i j lt) h

pub rising-head : (count i j : ℕ) (r : List ℕ) → rising count (i ∷ j ∷ r) ≡ true → i < j
unfolding rising
rising-head count i j r h = ltb-true i j (and_left (ltb i j) (rising count (j ∷ r)) h)

pub rising-rest : (count i : ℕ) (r : List ℕ) → rising count (i ∷ r) ≡ true → rising count r ≡ true
unfolding rising
rising-rest count i [] h = refl
rising-rest count i (j ∷ r) h = and_right (ltb i j) (rising count (j ∷ r)) h

-- Each of them is below the count.
pub rising-first : (count i : ℕ) (r : List ℕ) → rising count (i ∷ r) ≡ true → i < count
unfolding rising
rising-first count i [] h = ltb-true i count h
rising-first count i (j ∷ r) h =
    let next = rising-first count j r (and_right (ltb i j) (rising count (j ∷ r)) h) in
    let here = ltb-true i j (and_left (ltb i j) (rising count (j ∷ r)) h) in
    omega arith
