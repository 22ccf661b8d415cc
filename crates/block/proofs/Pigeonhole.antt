-- The pigeonhole principle: numbers without repetition that are all among others are no more than those. Assumes nothing.
use Prim.Native.Nat.{ℕ, suc, ◌≤◌}
use Rattle.block.specs.Sound.{distinct}
use Rattle.lexer.proofs.Basics.{and_left, and_right, by-test, eqb_same}
use Rattle.lexer.specs.Base.{pick, among}
use borrow.Author.Tests.{eqb-true, not-true}
use lib.Dec.{eqb}
use lib.ListN.{length}
use mathlib.Core.Bool.{true, false, not, false≢true}
use mathlib.Core.List.{List, [], ◌∷◌}
use mathlib.Core.Path.{◌≡◌, refl, sym, ap, ◌∙◌}
use native.Mathlib.Omega.{arith}

-- A list without the first place of a number.
without : ℕ → List ℕ → List ℕ
without a [] = []
without a (b ∷ r) = let more = b ∷ without a r in pick (eqb a b) r more

length_without : (a : ℕ) (ys : List ℕ) → among a ys ≡ true → suc (length (without a ys)) ≡ length ys
unfolding without among pick
length_without a [] h = absurd (false≢true h)
length_without a (b ∷ r) h = by-test (eqb a b) (λ t. rw t refl) (λ f. rw f (ap suc (length_without a r (rw f at h))))

among-without : (a b : ℕ) (ys : List ℕ) → eqb b a ≡ false → among b ys ≡ true → among b (without a ys) ≡ true
unfolding without among pick
among-without a b [] n h = h
among-without a b (c ∷ r) n h =
    by-test (eqb a c)
    (λ t. rw t (rw (← eqb-true a c t, n) at h))
    (λ f. rw f (by-test (eqb b c) (λ t. rw t refl) (λ g. rw g (among-without a b r n (rw g at h)))))

-- A number that is among these and another that is not differ.
pub among-differ : (a b : ℕ) (r : List ℕ) → among a r ≡ false → among b r ≡ true → eqb b a ≡ false
among-differ a b r n h = by-test (eqb b a) (λ t. absurd (false≢true (sym n ∙ rw (eqb-true b a t) at h))) (λ f. f)

pub pigeonhole : (xs ys : List ℕ) → distinct xs ≡ true → ((b : ℕ) → among b xs ≡ true → among b ys ≡ true) → length xs ≤ length ys
unfolding distinct among
pigeonhole [] ys d all = omega arith
pigeonhole (a ∷ r) ys d all =
    let n : among a r ≡ false = not-true (among a r) (and_left (not (among a r)) (distinct r) d) in
    let short : length r ≤ length (without a ys) =
    pigeonhole r (without a ys) (and_right (not (among a r)) (distinct r) d)
    (λ b h. among-without a b ys (among-differ a b r n h) (all b (rw (among-differ a b r n h, h) refl)))
    in
    let one : suc (length (without a ys)) ≡ length ys = length_without a ys (all a (rw eqb_same refl)) in
    omega arith
