-- The loop that judges UTF-8 byte by byte: what it keeps is that the rest is well-formed, where so much of a character is still to come, just if the
-- whole text is. Assumes nothing.
use Prim.Native.Nat.{ℕ, zero, suc, ◌+◌, ◌-◌, ◌≤◌, ◌<◌}
use Rattle.lexer.proofs.Basics.{by-test, and_both, or_left, or_right}
use Rattle.lexer.proofs.TextUtf8.{range-free}
use Rattle.lexer.specs.Base.{pick}
use Rattle.lexer.specs.Utf8.{utf8, utf8_from, after_lead, is_lead}
use borrow.Author.Tests.{ltb-true, ltb-false, lt-ltb, le-ltb, le-leb, lt-leb}
use lib.Dec.{eqb, ltb, leb, eqb-suc-zero}
use lib.ListN.{length, drop, get_or, drop_of_length-le}
use lib.Seq.{drop-cons}
use mathlib.Core.Bool.{true, false, ◌&&◌, ◌||◌}
use mathlib.Core.List.{List, [], ◌∷◌}
use mathlib.Core.Path.{◌≡◌, refl, sym, ◌∙◌}
use native.Mathlib.Numerals.{add-one}
use native.Mathlib.Omega.{arith}

-- A test that a number lies outside a range, and its negation.
outside : (low high b : ℕ) → ltb b low || ltb high b ≡ true → leb low b && leb b high ≡ false
outside low high b h = by-test (ltb b low) (λ t. rw (lt-leb low b (ltb-true b low t)) refl) (λ f. let g = rw f at h in rw (le-leb low b (ltb-false b low f), lt-leb b high (ltb-true high b g)) refl)

inside : (low high b : ℕ) → ltb b low || ltb high b ≡ false → leb low b && leb b high ≡ true
inside low high b h = and_both (le-leb low b (ltb-false b low (or_left (ltb b low) (ltb high b) h))) (le-leb b high (ltb-false high b (or_right (ltb b low) (ltb high b) h)))

-- What a byte asks of the rest behind it: an ASCII byte, a character's first byte, and a later byte.
module _ (low high b : ℕ) (r : List ℕ) where
  pub from-ascii : b < 128 → utf8_from 0 low high (b ∷ r) ≡ utf8_from 0 low high r
  unfolding utf8_from pick
  from-ascii small = rw (lt-ltb b 128 small) (sym (range-free low high r))

  pub from-lead : 128 ≤ b → ltb b 194 || ltb 244 b ≡ false → utf8_from 0 low high (b ∷ r) ≡ utf8_from (after_lead b).more (after_lead b).low (after_lead b).high r
  unfolding utf8_from pick is_lead
  from-lead large h = rw (le-ltb b 128 large, inside 194 244 b h) refl

  pub from-no-lead : 128 ≤ b → ltb b 194 || ltb 244 b ≡ true → utf8_from 0 low high (b ∷ r) ≡ false
  unfolding utf8_from pick is_lead
  from-no-lead large h = rw (le-ltb b 128 large, outside 194 244 b h) refl

  pub from-later : (n : ℕ) → (n ≡ 0 → ⊥) → ltb b low || ltb high b ≡ false → utf8_from n low high (b ∷ r) ≡ utf8_from (n - 1) 128 191 r
  unfolding utf8_from
  from-later zero ne h = absurd (ne refl)
  from-later (suc n) ne h = let e : suc n - 1 ≡ n = omega arith in rw (inside low high b h, e) refl

  pub from-no-later : (n : ℕ) → (n ≡ 0 → ⊥) → ltb b low || ltb high b ≡ true → utf8_from n low high (b ∷ r) ≡ false
  unfolding utf8_from
  from-no-later zero ne h = absurd (ne refl)
  from-no-later (suc n) ne h = rw (outside low high b h) refl

pub record Checking (text : List ℕ) (more low high i : ℕ) : Type 0 where
  pub below : i ≤ length text
  pub rest : utf8_from more low high (drop i text) ≡ utf8 text

pub checking-start : (text : List ℕ) → Checking text 0 128 191 0
unfolding utf8
checking-start text = record { below = omega arith; rest = refl }

module _ (text : List ℕ) (more low high i : ℕ) (k : Checking text more low high i) where
  pub checking-end : length text ≤ i → eqb more 0 ≡ utf8 text
  unfolding utf8_from
  checking-end le = go more (rw (drop_of_length-le text le) at k.rest)
    where
      go : (n : ℕ) → utf8_from n low high [] ≡ utf8 text → eqb n 0 ≡ utf8 text
      go zero e = e
      go (suc n) e = eqb-suc-zero n ∙ e

  module _ (lt : i < length text) where
    present : utf8_from more low high (get_or text i 0 ∷ drop (i + 1) text) ≡ utf8 text
    present = rw add-one (rw (drop-cons text i 0 lt) at k.rest)

    pub checking-turn : (more' low' high' : ℕ)
        → utf8_from more low high (get_or text i 0 ∷ drop (i + 1) text) ≡ utf8_from more' low' high' (drop (i + 1) text)
        → Checking text more' low' high' (i + 1)
    checking-turn more' low' high' e = record { below = omega arith; rest = sym e ∙ present }

    pub checking-refused : utf8_from more low high (get_or text i 0 ∷ drop (i + 1) text) ≡ false → false ≡ utf8 text
    checking-refused e = sym e ∙ present
