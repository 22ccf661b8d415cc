-- Sets of states: the order of insertion does not matter, and rising indices give themselves. Assumes nothing.
use Prim.Native.Nat.{ℕ, ◌<◌}
use Rattle.block.specs.Cell.{insert, insert_all}
use Rattle.lexer.proofs.Basics.{and_left, and_right, by-test, eqb_same}
use Rattle.lexer.specs.Base.{pick}
use Rattle.block.specs.Sound.{rising}
use borrow.Author.Tests.{eqb-true, eqb-false, ltb-true, ltb-false, lt-ltb, le-ltb, ne_eqb}
use lib.Dec.{eqb, ltb}
use mathlib.Core.Bool.{true}
use mathlib.Core.List.{List, [], ◌∷◌}
use mathlib.Core.Path.{◌≡◌, refl, sym, ap}
use native.Mathlib.Omega.{arith}

insert-before : (i j : ℕ) (r : List ℕ) → i < j → insert i (j ∷ r) ≡ i ∷ j ∷ r
unfolding insert pick
insert-before i j r h = rw (lt-ltb i j h) refl

insert-same : (i : ℕ) (r : List ℕ) → insert i (i ∷ r) ≡ i ∷ r
unfolding insert pick
insert-same i r = rw (le-ltb i i (omega arith), eqb_same i) refl

insert-behind : (i j : ℕ) (r : List ℕ) → j < i → insert i (j ∷ r) ≡ j ∷ insert i r
unfolding insert pick
insert-behind i j r h = rw (le-ltb i j (omega arith), ne_eqb i j (λ e. omega arith)) refl

-- Two numbers are in order, equal, or in the other order.
module _ {X : Type 0} where
  by_order : (i j : ℕ) → (i < j → X) → (i ≡ j → X) → (j < i → X) → X
  by_order i j less same more =
      by-test (ltb i j)
      (λ t. less (ltb-true i j t))
      (λ f. by-test (eqb i j) (λ t. same (eqb-true i j t)) (λ g. let other : (i ≡ j → ⊥) = eqb-false i j g in more (omega (arith, ltb-false i j f))))

insert-nil : (i : ℕ) → insert i [] ≡ i ∷ []
unfolding insert
insert-nil i = refl

insert-less : (i j : ℕ) (l : List ℕ) → i < j → insert i (insert j l) ≡ insert j (insert i l)
insert-less i j [] h = rw (insert-nil i, insert-nil j, insert-before i j [] h, insert-behind j i [] h, insert-nil j) refl
insert-less i j (x ∷ r) h =
    by_order i x
    (λ less. rw (insert-before i x r less, insert-behind j i (x ∷ r) h)
    (by_order j x
    (λ l. rw (insert-before j x r l, insert-before i j (x ∷ r) h) refl)
    (λ e. rw (e, insert-same x r, insert-before i x r less) refl)
    (λ m. rw (insert-behind j x r m, insert-before i x (insert j r) less) refl)))
    (λ same. rw (same, insert-same x r, insert-behind j x r (omega arith), insert-same x (insert j r)) refl)
    (λ more. rw (insert-behind j x r (omega arith), insert-behind i x r more, insert-behind i x (insert j r) more, insert-behind j x (insert i r) (omega arith)) (ap (λ l. x ∷ l) (insert-less i j r h)))

insert_comm : (i j : ℕ) (l : List ℕ) → insert i (insert j l) ≡ insert j (insert i l)
insert_comm i j l = by_order i j (insert-less i j l) (λ e. rw e refl) (λ m. sym (insert-less j i l m))

pub insert-all-comm : (s : List ℕ) (i : ℕ) (l : List ℕ) → insert_all s (insert i l) ≡ insert i (insert_all s l)
unfolding insert_all
insert-all-comm [] i l = refl
insert-all-comm (j ∷ s) i l = rw (insert-all-comm s i l) (insert_comm j i (insert_all s l))

pub insert-rising : (count : ℕ) (s : List ℕ) → rising count s ≡ true → insert_all s [] ≡ s
unfolding insert_all rising
insert-rising count [] h = refl
insert-rising count (i ∷ []) h = insert-nil i
insert-rising count (i ∷ j ∷ r) h =
    let more : insert_all (j ∷ r) [] ≡ j ∷ r = insert-rising count (j ∷ r) (and_right (ltb i j) (rising count (j ∷ r)) h) in
    rw more (insert-before i j r (ltb-true i j (and_left (ltb i j) (rising count (j ∷ r)) h)))
