-- UTF-8 byte by byte: what each byte leaves open of a character. Assumes nothing.
use Prim.Native.Nat.{ℕ, zero, suc, ◌-◌, ◌≤◌, ◌<◌}
use Rattle.lexer.proofs.Basics.{by-test}
use Rattle.lexer.specs.Base.{pick}
use Rattle.lexer.specs.Utf8.{utf8_from, after_lead, is_lead}
use borrow.Author.Tests.{ltb-true, ltb-false, lt-ltb, le-ltb, le-leb, lt-leb}
use lib.Dec.{ltb, leb}
use mathlib.Core.Bool.{Bool, true, false, ◌&&◌, ◌||◌, not}
use mathlib.Core.List.{List, ◌∷◌}
use mathlib.Core.Path.{◌≡◌, refl, ◌∙◌}
use native.Mathlib.Omega.{arith}

-- A number is at most another just if that is not below it.
at_most : (a b : ℕ) → leb a b ≡ not (ltb b a)
at_most a b = by-test (ltb b a) (λ t. rw (t, lt-leb a b (ltb-true b a t))) (λ f. rw (f, le-leb a b (ltb-false b a f)))

-- A number lies in a range just if it is neither below nor above it.
within : (low high b : ℕ) → leb low b && leb b high ≡ not (ltb b low || ltb high b)
within low high b = rw (at_most low b, at_most b high) (go (ltb b low) (ltb high b))
  where
    go : (u v : Bool) → not u && not v ≡ not (u || v)
    go true v = refl
    go false v = refl

-- What a byte leaves open, where no character is open: an ASCII byte nothing, another what follows a character's first byte.
module _ (more low high b : ℕ) (n : List ℕ) where
  pub open-ascii : more ≡ 0 → b < 128 → utf8_from more low high (b ∷ n) ≡ utf8_from 0 128 191 n
  unfolding utf8_from pick
  open-ascii none small = rw (none, lt-ltb b 128 small)

  lead-open : more ≡ 0 → 128 ≤ b → utf8_from more low high (b ∷ n) ≡ not (ltb b 194 || ltb 244 b) && utf8_from (after_lead b).more (after_lead b).low (after_lead b).high n
  unfolding utf8_from pick is_lead
  lead-open none large = rw (none, le-ltb b 128 large, within 194 244 b)

  pub open-lead : more ≡ 0 → 128 ≤ b → ltb b 194 || ltb 244 b ≡ false
      → utf8_from more low high (b ∷ n) ≡ utf8_from (after_lead b).more (after_lead b).low (after_lead b).high n
  open-lead none large h = lead-open none large ∙ rw h

  pub no_lead : more ≡ 0 → 128 ≤ b → ltb b 194 || ltb 244 b ≡ true → utf8_from more low high (b ∷ n) ≡ false
  no_lead none large h = lead-open none large ∙ rw h

-- Where a character is open, a byte in the range is one of it.
later-open : (more low high b : ℕ) (n : List ℕ) → (more ≡ 0 → ⊥) → utf8_from more low high (b ∷ n) ≡ not (ltb b low || ltb high b) && utf8_from (more - 1) 128 191 n
unfolding utf8_from
later-open zero low high b n some = absurd (some refl)
later-open (suc m) low high b n some = let e : suc m - 1 ≡ m = omega arith in rw (within low high b, e)

module _ (more low high b : ℕ) (n : List ℕ) (some : more ≡ 0 → ⊥) where
  pub open-later : ltb b low || ltb high b ≡ false → utf8_from more low high (b ∷ n) ≡ utf8_from (more - 1) 128 191 n
  open-later h = later-open more low high b n some ∙ rw h

  pub no-later : ltb b low || ltb high b ≡ true → utf8_from more low high (b ∷ n) ≡ false
  no-later h = later-open more low high b n some ∙ rw h
