-- Laws of tests, choices and lists of bytes that every crate's proofs rest on. Assumes nothing.
use Prim.Native.Nat.{ℕ, zero, suc, ◌<◌}
use Rattle.lexer.specs.Base.{pick, same, alike, lower, among}
use borrow.Author.Tests.{eqb-true, eq-eqb, ne_eqb, eqb-false}
use lib.Dec.{eqb}
use mathlib.Core.Bool.{Bool, true, false, ◌&&◌, ◌||◌, not, true≢false, false≢true}
use mathlib.Core.List.{List, [], ◌∷◌, ◌++◌}
use mathlib.Core.Option.{none, some}
use mathlib.Core.Path.{◌≡◌, refl, sym, ◌∙◌}
use native.Mathlib.Omega.{arith}

-- Conjunctions and disjunctions of tests
pub and_left : (a b : Bool) → a && b ≡ true → a ≡ true
and_left true b h = refl
and_left false b h = h

pub and_right : (a b : Bool) → a && b ≡ true → b ≡ true
and_right true b h = h
and_right false b h = absurd (false≢true h)

pub and_both : {a b : Bool} → a ≡ true → b ≡ true → a && b ≡ true
and_both {a} {b} p q = rw p q

pub or_left : (a b : Bool) → a || b ≡ false → a ≡ false
or_left true b h = h
or_left false b h = refl

pub or_right : (a b : Bool) → a || b ≡ false → b ≡ false
or_right true b h = absurd (true≢false h)
or_right false b h = h

pub or-both : {a b : Bool} → a ≡ false → b ≡ false → a || b ≡ false
or-both {a} {b} p q = rw p q

pub or-false : (a : Bool) → a || false ≡ a
or-false true = refl
or-false false = refl

pub or-true : (a : Bool) → a || true ≡ true
or-true true = refl
or-true false = refl

pub or-first : (a b : Bool) → a ≡ true → a || b ≡ true
or-first a b h = rw h

pub or-second : (a b : Bool) → b ≡ true → a || b ≡ true
or-second true b h = refl
or-second false b h = h

-- a test that another implies
pub implied : (a b : Bool) → not a || b ≡ true → a ≡ true → b ≡ true
implied true b h e = h
implied false b h e = absurd (false≢true e)

pub or_assoc : (a b c : Bool) → a || (b || c) ≡ a || b || c
or_assoc true b c = refl
or_assoc false b c = refl

pub all-four : (a b c d : Bool) → a && b && c && d ≡ true → (a ≡ true) × (b ≡ true) × (c ≡ true) × (d ≡ true)
all-four a b c d h =
    let abc = and_left (a && b && c) d h in
    let ab = and_left (a && b) c abc in
    (and_left a b ab, and_right a b ab, and_right (a && b) c abc, and_right (a && b && c) d h)

pub and-false : (a : Bool) → a && false ≡ false
and-false true = refl
and-false false = refl

pub and_assoc : (a b c : Bool) → a && (b && c) ≡ a && b && c
and_assoc true b c = refl
and_assoc false b c = refl

pub and-true : (a : Bool) → a && true ≡ a
and-true true = refl
and-true false = refl

-- A test is true or false: the two cases, each with its equation, and never both.
module _ {X : Type 0} where
  pub not-both : {b : Bool} → b ≡ false → b ≡ true → X
  not-both f t = absurd (true≢false (sym t ∙ f))

  pub by-test : (b : Bool) → (b ≡ true → X) → (b ≡ false → X) → X
  by-test true t f = t refl
  by-test false t f = f refl

  pub pick_first : (b : Bool) (x y : X) → b ≡ true → pick b x y ≡ x
  unfolding pick
  pick_first b x y h = rw h

  pub pick_second : (b : Bool) (x y : X) → b ≡ false → pick b x y ≡ y
  unfolding pick
  pick_second b x y h = rw h

  -- where a choice between something and nothing gives something, the test held
  pub picked : (b : Bool) (x y : X) → pick b (some x) none ≡ some y → b ≡ true
  unfolding pick
  picked true x y h = refl
  picked false x y h = let z : ◌≡◌ {A = Bool} false true = cc in z

  pub picked_value : (b : Bool) (x y : X) → pick b (some x) none ≡ some y → x ≡ y
  unfolding pick
  picked_value true x y h = cc
  picked_value false x y h = cc

-- Do two tests agree? Those that do are equal.
unfoldable pub agree : Bool → Bool → Bool
agree true b = b
agree false b = not b

pub agree-true : (a b : Bool) → agree a b ≡ true → a ≡ b
unfolding agree
agree-true true b h = sym h
agree-true false true h = h
agree-true false false h = refl

-- What is chosen has a property where both have it, each under its test.
module _ {X : Type 0} (P : X → Type 0) where
  pub chosen : (t : Bool) {x y : X} → (t ≡ true → P x) → (t ≡ false → P y) → P (pick t x y)
  unfolding pick
  chosen true p q = p refl
  chosen false p q = q refl

-- Two choices by one test are related where what they choose between is.
module _ {X Y : Type 0} (R : X → Y → Type 0) where
  pub chosen-alike : (t : Bool) {a b : X} {c d : Y} → R a c → R b d → R (pick t a b) (pick t c d)
  unfolding pick
  chosen-alike true p q = p
  chosen-alike false p q = q

-- Equality of numbers and of bytes
pub eqb_same : (n : ℕ) → eqb n n ≡ true
eqb_same n = eq-eqb n n refl

pub eqb-sym : (a b : ℕ) → eqb a b ≡ eqb b a
eqb-sym a b = by-test (eqb a b) (λ t. rw (eqb-true a b t, eqb_same b)) (λ f. f ∙ sym (ne_eqb b a (λ e. eqb-false a b f (sym e))))

pub same_refl : (l : List ℕ) → same l l ≡ true
unfolding same
same_refl [] = refl
same_refl (a ∷ l) = and_both (eqb_same a) (same_refl l)

pub same_true : (l r : List ℕ) → same l r ≡ true → l ≡ r
unfolding same
same_true [] [] h = refl
same_true [] (b ∷ r) h = absurd (false≢true h)
same_true (a ∷ l) [] h = absurd (false≢true h)
same_true (a ∷ l) (b ∷ r) h =
    let e : a ≡ b = eqb-true a b (and_left (eqb a b) (same l r) h) in
    let t : l ≡ r = same_true l r (and_right (eqb a b) (same l r) h) in
    cc

pub alike-sym : (l r : List ℕ) → alike l r ≡ alike r l
unfolding alike
alike-sym [] [] = refl
alike-sym [] (b ∷ r) = refl
alike-sym (a ∷ l) [] = refl
alike-sym (a ∷ l) (b ∷ r) = rw (eqb-sym (lower a) (lower b), alike-sym l r)

-- texts that are alike to a third are alike
pub alike_both : (k l r : List ℕ) → alike k r ≡ true → alike l r ≡ true → alike k l ≡ true
unfolding alike
alike_both [] [] r p q = refl
alike_both [] (b ∷ l) [] p q = absurd (false≢true q)
alike_both [] (b ∷ l) (c ∷ r) p q = absurd (false≢true p)
alike_both (a ∷ k) l [] p q = absurd (false≢true p)
alike_both (a ∷ k) [] (c ∷ r) p q = absurd (false≢true q)
alike_both (a ∷ k) (b ∷ l) (c ∷ r) p q =
    let first = eqb-true (lower a) (lower c) (and_left (eqb (lower a) (lower c)) (alike k r) p) in
    let second = eqb-true (lower b) (lower c) (and_left (eqb (lower b) (lower c)) (alike l r) q) in
    and_both (eq-eqb (lower a) (lower b) (first ∙ sym second))
    (alike_both k l r (and_right (eqb (lower a) (lower c)) (alike k r) p) (and_right (eqb (lower b) (lower c)) (alike l r) q))

-- Membership
pub among-append : (b : ℕ) (l r : List ℕ) → among b (l ++ r) ≡ among b l || among b r
unfolding among
among-append b [] r = refl
among-append b (c ∷ l) r = rw (among-append b l r) (or_assoc (eqb b c) (among b l) (among b r))

-- A test that is computed for every number below a bound, and what it says of each.
unfoldable pub all_under : (ℕ → Bool) → ℕ → Bool
all_under p zero = true
all_under p (suc n) = let more = all_under p n in p n && more

pub under_at : (p : ℕ → Bool) (n k : ℕ) → all_under p n ≡ true → k < n → p k ≡ true
unfolding all_under
under_at p zero k h lt = absurd (omega arith)
under_at p (suc n) k h lt = by-test (eqb k n) (λ e. rw (eqb-true k n e) (and_left (p n) (all_under p n) h)) (λ e. under_at p n k (and_right (p n) (all_under p n) h) (below e))
  where
    below : eqb k n ≡ false → k < n
    below e = let ne = eqb-false k n e in omega (arith, ne)
