-- The order of texts, ASCII case ignored, and of two lines, byte by byte. Assumes nothing.
use Prim.Native.Nat.{ℕ, ◌+◌, ◌<◌}
use Rattle.lexer.proofs.Basics.{by-test, and-false, and_left, and_right}
use Rattle.lexer.specs.Base.{pick, alike, lower}
use Rattle.naming.proofs.LineLaws.{before-end, line-ended, line-more, lower-mark}
use Rattle.naming.specs.Lines.{line_at}
use Rattle.naming.specs.Order.{before}
use borrow.Author.Tests.{eqb-true, eqb-false, eq-eqb, ne_eqb, lt-ltb, ltb-true, ltb-false}
use lib.Dec.{eqb, ltb, lit<}
use lib.ListN.{length, get_or}
use mathlib.Core.Bool.{Bool, true, false, ◌&&◌, ◌||◌, not, false≢true, true≢false}
use mathlib.Core.List.{List, [], ◌∷◌}
use mathlib.Core.Path.{◌≡◌, refl, sym, ap, ◌∙◌}
use native.Mathlib.Omega.{arith}

-- The first bytes of two texts, as small letters, and the answer for what stands behind them.
module _ (m n : ℕ) where
  first-same : (u : Bool) → m ≡ n → pick (eqb m n) u (ltb m n) ≡ u
  unfolding pick
  first-same u e = rw (eq-eqb m n e)

  first-less : (u : Bool) → m < n → pick (eqb m n) u (ltb m n) ≡ true
  unfolding pick
  first-less u h = rw (ne_eqb m n (λ e. omega arith), lt-ltb m n h)

  first-cases : {X : Type 0} (u : Bool) → pick (eqb m n) u (ltb m n) ≡ true → (m ≡ n → u ≡ true → X) → (m < n → X) → X
  unfolding pick
  first-cases u p same less =
      by-test (eqb m n)
      (λ e. same (eqb-true m n e) (rw e at p))
      (λ e. less (ltb-true m n (rw e at p)))

-- A text that is before another is before all that the other is before, and before all that are like the other.
pub before_on : (x y z : List ℕ) → before x y ≡ true → before y z ≡ true → before x z ≡ true
unfolding before
before_on [] [] z p q = absurd (false≢true p)
before_on [] (b ∷ y) [] p q = absurd (false≢true q)
before_on [] (b ∷ y) (c ∷ z) p q = refl
before_on (a ∷ x) [] z p q = absurd (false≢true p)
before_on (a ∷ x) (b ∷ y) [] p q = absurd (false≢true q)
before_on (a ∷ x) (b ∷ y) (c ∷ z) p q =
    first-cases (lower a) (lower b) (before x y) p
    (λ e u.
    first-cases (lower b) (lower c) (before y z) q
    (λ f v. first-same (lower a) (lower c) (before x z) (e ∙ f) ∙ before_on x y z u v)
    (λ l. first-less (lower a) (lower c) (before x z) (omega arith)))
    (λ h.
    first-cases (lower b) (lower c) (before y z) q
    (λ f v. first-less (lower a) (lower c) (before x z) (omega arith))
    (λ l. first-less (lower a) (lower c) (before x z) (omega arith)))

pub before-like : (x y z : List ℕ) → before x y ≡ true → alike y z ≡ true → before x z ≡ true
unfolding before alike
before-like [] [] z p q = absurd (false≢true p)
before-like [] (b ∷ y) [] p q = absurd (false≢true q)
before-like [] (b ∷ y) (c ∷ z) p q = refl
before-like (a ∷ x) [] z p q = absurd (false≢true p)
before-like (a ∷ x) (b ∷ y) [] p q = absurd (false≢true q)
before-like (a ∷ x) (b ∷ y) (c ∷ z) p q =
    let f = eqb-true (lower b) (lower c) (and_left (eqb (lower b) (lower c)) (alike y z) q) in
    first-cases (lower a) (lower b) (before x y) p
    (λ e u. first-same (lower a) (lower c) (before x z) (e ∙ f) ∙ before-like x y z u (and_right (eqb (lower b) (lower c)) (alike y z) q))
    (λ h. first-less (lower a) (lower c) (before x z) (omega arith))

-- Two texts are alike, or one of them is before the other, and never both.
pub before-unlike : (x y : List ℕ) → before x y ≡ true → alike x y ≡ false
unfolding before alike
before-unlike [] [] p = absurd (false≢true p)
before-unlike [] (b ∷ y) p = refl
before-unlike (a ∷ x) [] p = refl
before-unlike (a ∷ x) (b ∷ y) p =
    first-cases (lower a) (lower b) (before x y) p
    (λ e u. rw (before-unlike x y u) (and-false (eqb (lower a) (lower b))))
    (λ h. rw (ne_eqb (lower a) (lower b) (λ e. omega arith)))

pub else-before : (x y : List ℕ) → before x y ≡ false → alike x y ≡ false → before y x ≡ true
unfolding before alike pick
else-before [] [] p q = absurd (true≢false q)
else-before [] (b ∷ y) p q = absurd (true≢false p)
else-before (a ∷ x) [] p q = refl
else-before (a ∷ x) (b ∷ y) p q =
    by-test (eqb (lower a) (lower b))
    (λ e. first-same (lower b) (lower a) (before y x) (sym (eqb-true (lower a) (lower b) e)) ∙ else-before x y (rw e at p) (rw e at q))
    (λ e.
    let other = eqb-false (lower a) (lower b) e in
    let least = ltb-false (lower a) (lower b) (rw e at p) in
    first-less (lower b) (lower a) (before y x) (omega (arith, other)))

-- No text is before one without bytes.
before-none : (l : List ℕ) → before l [] ≡ false
unfolding before
before-none [] = refl
before-none (a ∷ l) = refl

-- Two lines are compared as far as here: what is left of them decides.
pub record Ordering (b : List ℕ) (first second i j : ℕ) : Type 0 where
  pub rest : before (line_at b i) (line_at b j) ≡ before (line_at b first) (line_at b second)

module _ (b : List ℕ) (first second i j : ℕ) (k : Ordering b first second i j) {u v : ℕ} (left : u ≡ lower (get_or b i 10)) (right : v ≡ lower (get_or b j 10)) where
  more-here : {x : ℕ} (n : ℕ) → x ≡ lower (get_or b n 10) → (x ≡ 10 → ⊥) → get_or b n 10 ≡ 10 → ⊥
  unfolding lower pick
  more-here n is other ten = other (is ∙ ap lower ten)

  ended_here : {x : ℕ} (n : ℕ) → x ≡ lower (get_or b n 10) → x ≡ 10 → line_at b n ≡ []
  ended_here n is ten = line-ended b n (lower-mark (get_or b n 10) 10 (lit< tt) (sym is ∙ ten))

  pub ordering-told : (u ≡ v → ⊥) → not (eqb v 10) && (eqb u 10 || ltb u v) ≡ before (line_at b first) (line_at b second)
  unfolding before pick
  ordering-told other =
      by-test (eqb v 10)
      (λ t. rw t (sym (rw (ended_here j right (eqb-true v 10 t)) (before-none (line_at b i))) ∙ k.rest))
      (λ f.
      let more = line-more b j (more-here j right (eqb-false v 10 f)) in
      by-test (eqb u 10)
      (λ t. rw (f, t) (sym (rw (more, ended_here i left (eqb-true u 10 t))) ∙ k.rest))
      (λ g.
      let front = line-more b i (more-here i left (eqb-false u 10 g)) in
      rw (f, g) (sym (rw (front, more, ← left, ← right, ne_eqb u v other)) ∙ k.rest)))

  module _ (e : u ≡ v) where
    pub ordering-ended : u ≡ 10 → false ≡ before (line_at b first) (line_at b second)
    ordering-ended ten = sym (rw (ended_here j right (sym e ∙ ten)) (before-none (line_at b i))) ∙ k.rest

    module _ (other : u ≡ 10 → ⊥) where
      pub ordering-within : (i < length b) × (j < length b)
      ordering-within = (before-end b i (more-here i left other), before-end b j (more-here j right (λ ten. other (e ∙ ten))))

      pub ordering-turn : Ordering b first second (i + 1) (j + 1)
      unfolding before
      ordering-turn =
          record {
            rest = sym (first-same (lower (get_or b i 10)) (lower (get_or b j 10)) (before (line_at b (i + 1)) (line_at b (j + 1))) (sym left ∙ e ∙ right))
                ∙ sym (rw (line-more b i (more-here i left other), line-more b j (more-here j right (λ ten. other (e ∙ ten)))))
                ∙ k.rest;
          }
