-- Judging parts that stand one behind another: none, one more, and one that does not stand there. Assumes nothing.
use Prim.Native.Nat.{ℕ, suc, ◌+◌, ◌≤◌}
use Rattle.judging.proofs.TellLaws.{same-told, tells_none, tells-nothing, tells-no-first, tells-then}
use Rattle.judging.specs.Judges.{Stands}
use Rattle.judging.specs.Lists.{Listed, ListTold, spelled_all, told_all}
use Rattle.judging.specs.Tells.{Part, nothing, until, Tells}
use lib.ListN.{length, drop}
use mathlib.Core.List.{List, [], ◌∷◌, ◌++◌}
use mathlib.Core.Path.{◌≡◌, refl, sym, ap, ◌∙◌}
use native.Mathlib.Nat.{add-zero}
use native.Mathlib.Omega.{arith}

module _ {A T : Type 0} (b : List ℕ) (good : ℕ → A → Type 0) (spelled : ℕ → A → List ℕ) (tell : A → T) (join : T → T → T) where
  -- Where there are to be none, they end where they begin.
  list_over : (i k : ℕ) (before : T) → ListTold b good spelled tell join i k 0 before (until i before)
  unfolding spelled_all told_all
  list_over i k before = record { found = found; all = all }
    where
      found : (j : ℕ) (v : T) → until i before ≡ until j v → (s : Stands b i (Listed good k 0) (spelled_all spelled k) j) × (v ≡ told_all tell join before s.what)
      found j v e =
          let (ij, bv) = same-told e in
          (record { what = []; sound = record { count = refl; each = tt }; here = rw ij refl; end = sym ij ∙ sym (add-zero i) }, sym bv)

      all : (l : List A) (rest : List ℕ) → Listed good k 0 l → drop i b ≡ spelled_all spelled k l ++ rest
          → until i before ≡ until (i + length (spelled_all spelled k l)) (told_all tell join before l)
      all [] rest g e = rw (add-zero i) refl
      all (a ∷ l) rest g e = absurd (omega (arith, g.count))

  -- The first and the others.
  split : (k n : ℕ) (l : List A) → Listed good k (suc n) l → (p : A × List A) × (good k p.0 × Listed good (suc k) n p.1) × (l ≡ p.0 ∷ p.1)
  split k n [] g = absurd (omega (arith, g.count))
  split k n (a ∷ l) g = ((a, l), (g.each.0, record { count = omega (arith, g.count); each = g.each.1 }), refl)

  together : (k n : ℕ) (p : A × List A) → good k p.0 × Listed good (suc k) n p.1 → Listed good k (suc n) (p.0 ∷ p.1)
  together k n p g = record { count = ap suc g.1.count; each = (g.0, g.1.each) }

  module _ (i k n : ℕ) (before : T) where
    -- One more stands there: they are judged as those behind it.
    list-step : (j : ℕ) (v : T) (r : Part T) → Tells b i (good k) (spelled k) tell (until j v) → ListTold b good spelled tell join j (suc k) n (join before v) r
        → ListTold b good spelled tell join i k (suc n) before r
    unfolding spelled_all told_all
    list-step j v r first others =
        let both = tells-then b i (good k) (spelled k) tell (λ u. Listed good (suc k) n) (λ u. spelled_all spelled (suc k)) (λ u. told_all tell join (join before u)) j v r first others in
        record { found = λ m w e. found m w (both.found m w e); all = λ l rest g e. all (λ p t h f. both.all p t h f) l rest (split k n l g) e }
      where
        found : (m : ℕ) (w : T)
            → (s : Stands {A = A × List A} b i (λ p. good k p.0 × Listed good (suc k) n p.1) (λ p. spelled k p.0 ++ spelled_all spelled (suc k) p.1) m)
            × (w ≡ told_all tell join (join before (tell s.what.0)) s.what.1)
            → (s : Stands b i (Listed good k (suc n)) (spelled_all spelled k) m) × (w ≡ told_all tell join before s.what)
        found m w (s, is) = (record { what = s.what.0 ∷ s.what.1; sound = together k n s.what s.sound; here = s.here; end = s.end }, is)

        all : ((p : A × List A) (t : List ℕ) → good k p.0 × Listed good (suc k) n p.1 → drop i b ≡ spelled_all spelled k (p.0 ∷ p.1) ++ t
            → r ≡ until (i + length (spelled_all spelled k (p.0 ∷ p.1))) (told_all tell join before (p.0 ∷ p.1)))
            → (l : List A) (rest : List ℕ) → (p : A × List A) × (good k p.0 × Listed good (suc k) n p.1) × (l ≡ p.0 ∷ p.1)
            → drop i b ≡ spelled_all spelled k l ++ rest → r ≡ until (i + length (spelled_all spelled k l)) (told_all tell join before l)
        all both l rest (p, g, same) e = rw same (both p rest g (rw same at e))

    -- It does not stand there: there are not so many.
    list-short : Tells b i (good k) (spelled k) tell nothing → ListTold b good spelled tell join i k (suc n) before nothing
    unfolding spelled_all told_all
    list-short first =
        let none = tells-no-first b i (good k) (spelled k) tell (λ u. Listed good (suc k) n) (λ u. spelled_all spelled (suc k)) (λ u. told_all tell join (join before u)) first in
        tells_none b i _ _ _ (λ l rest g e. short (tells-nothing b i _ _ _ none) l rest (split k n l g) e)
      where
        short : ((p : A × List A) (t : List ℕ) → good k p.0 × Listed good (suc k) n p.1 → drop i b ≡ spelled_all spelled k (p.0 ∷ p.1) ++ t → ⊥)
            → (l : List A) (rest : List ℕ) → (p : A × List A) × (good k p.0 × Listed good (suc k) n p.1) × (l ≡ p.0 ∷ p.1)
            → drop i b ≡ spelled_all spelled k l ++ rest → ⊥
        short none l rest (p, g, same) e = none p rest g (rw same at e)

  -- What the turns of a walk keep: what is judged of those that are left, from here on, is judged of all.
  pub record Listing (i k n : ℕ) (before : T) (at next left : ℕ) (told : T) : Type 0 where
    pub back : (r : Part T) → ListTold b good spelled tell join at next left told r → ListTold b good spelled tell join i k n before r

  pub listing_start : (i k n : ℕ) (before : T) → Listing i k n before i k n before
  listing_start i k n before = record { back = λ r told. told }

  module _ {i k n : ℕ} {before : T} {at next left : ℕ} {told : T} (walk : Listing i k n before at next left told) where
    -- One more stands there.
    pub listing_step : {less : ℕ} → left ≡ suc less → (j : ℕ) (v : T) → Tells b at (good next) (spelled next) tell (until j v)
        → Listing i k n before j (suc next) less (join told v)
    listing_step {less} more j v first = record { back = λ r others. walk.back r (rw more (list-step at next less told j v r first others)) }

    -- It does not stand there.
    pub listing-short : {less : ℕ} → left ≡ suc less → Tells b at (good next) (spelled next) tell nothing → ListTold b good spelled tell join i k n before nothing
    listing-short {less} more first = walk.back nothing (rw more (list-short at next less told first))

    -- None are left.
    pub listing-over : left ≤ 0 → ListTold b good spelled tell join i k n before (until at told)
    listing-over none = let over : left ≡ 0 = omega arith in walk.back (until at told) (rw over (list_over at next told))
