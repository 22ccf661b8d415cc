-- Two texts are alike exactly where their bytes are the same, ASCII case ignored. Assumes nothing.
use Prim.Native.Nat.{ℕ, ◌+◌, ◌≤◌}
use Rattle.lexer.proofs.Basics.{and_left, and_right, and_both, by-test, eqb_same}
use Rattle.lexer.specs.Base.{pick, lower, alike}
use Rattle.record.specs.Demands.{SameLetter, equal, capital, small, Alike}
use borrow.Author.Tests.{eqb-true, leb-true, le-leb, lt-leb}
use lib.Dec.{leb, eqb}
use mathlib.Core.Bool.{true, false, ◌&&◌, true≢false}
use mathlib.Core.List.{List, [], ◌∷◌}
use mathlib.Core.Path.{◌≡◌, refl, sym, ap, ◌∙◌}
use native.Mathlib.Omega.{arith}

-- A byte's small letter
lower-capital : (b : ℕ) → leb 65 b && leb b 90 ≡ true → lower b ≡ b + 32
unfolding lower pick
lower-capital b h = rw h

lower-other : (b : ℕ) → leb 65 b && leb b 90 ≡ false → lower b ≡ b
unfolding lower pick
lower-other b h = rw h

lower-same : (a b : ℕ) → lower a ≡ lower b → SameLetter a b
lower-same a b h =
    by-test (leb 65 a && leb a 90)
    (λ t. by-test (leb 65 b && leb b 90)
    (λ u. equal (omega (arith, lower-capital a t, lower-capital b u)))
    (λ u. capital (leb-true 65 a (and_left _ (leb a 90) t)) (leb-true a 90 (and_right (leb 65 a) _ t)) (omega (arith, lower-capital a t, lower-other b u))))
    (λ t. by-test (leb 65 b && leb b 90)
    (λ u. small (leb-true 65 b (and_left _ (leb b 90) u)) (leb-true b 90 (and_right (leb 65 b) _ u)) (omega (arith, lower-other a t, lower-capital b u)))
    (λ u. equal (omega (arith, lower-other a t, lower-other b u))))

capital-lower : (a b : ℕ) → 65 ≤ a → a ≤ 90 → b ≡ a + 32 → lower a ≡ lower b
capital-lower a b l h e =
    let beyond : leb 65 b && leb b 90 ≡ false = rw (le-leb 65 b (omega arith), lt-leb b 90 (omega arith)) in
    lower-capital a (and_both (le-leb 65 a l) (le-leb a 90 h)) ∙ sym e ∙ sym (lower-other b beyond)

same-lower : (a b : ℕ) → SameLetter a b → lower a ≡ lower b
same-lower a b (equal e) = ap lower e
same-lower a b (capital l h e) = capital-lower a b l h e
same-lower a b (small l h e) = sym (capital-lower b a l h e)

pub alike-letters : (l r : List ℕ) → alike l r ≡ true → Alike l r
unfolding alike
alike-letters [] [] h = tt
alike-letters [] (b ∷ r) h = absurd (true≢false (sym h))
alike-letters (a ∷ l) [] h = absurd (true≢false (sym h))
alike-letters (a ∷ l) (b ∷ r) h =
    (lower-same a b (eqb-true (lower a) (lower b) (and_left _ (alike l r) h)), alike-letters l r (and_right (eqb (lower a) (lower b)) _ h))

pub letters-alike : (l r : List ℕ) → Alike l r → alike l r ≡ true
unfolding alike
letters-alike [] [] h = refl
letters-alike [] (b ∷ r) h = absurd h
letters-alike (a ∷ l) [] h = absurd h
letters-alike (a ∷ l) (b ∷ r) h = rw (same-lower a b h.0, eqb_same) (letters-alike l r h.1)
