-- Whether symbols of an array are those of DNA: there are four, and each is its own. Assumes nothing.
use Prim.Native.Nat.{ℕ, ◌≤◌}
use Rattle.block.specs.Dna.{acgt}
use Rattle.block.specs.Formats.{Listed}
use Rattle.lexer.proofs.Basics.{and-true, by-test, same_true}
use Rattle.lexer.specs.Base.{bytes, same}
use borrow.Author.Tests.{leb-true, leb-false}
use lib.Dec.{eqb, leb}
use lib.ListN.{length, get_or, take, length-take}
use mathlib.Core.Bool.{Bool, true, false, ◌&&◌}
use mathlib.Core.List.{List, [], ◌∷◌}
use mathlib.Core.Path.{◌≡◌, refl, sym, ap, ◌∙◌}
use native.Mathlib.Omega.{arith}

take-four : (l : List ℕ) → 4 ≤ length l → take 4 l ≡ get_or l 0 0 ∷ get_or l 1 0 ∷ get_or l 2 0 ∷ get_or l 3 0 ∷ []
take-four [] h = absurd (omega arith)
take-four (a ∷ []) h = absurd (omega arith)
take-four (a ∷ b ∷ []) h = absurd (omega arith)
take-four (a ∷ b ∷ c ∷ []) h = absurd (omega arith)
take-four (a ∷ b ∷ c ∷ d ∷ r) h = refl

and-four : (a b c d : Bool) → a && b && c && d ≡ a && (b && (c && (d && true)))
and-four false b c d = refl
and-four true false c d = refl
and-four true true false d = refl
and-four true true true d = sym (and-true d)

module _ (array : List ℕ) (count : ℕ) (whole : length array ≡ 74) (l : List ℕ) (k : Listed array count l) where
  listed-count : length l ≡ 4 → count ≡ 4
  listed-count e =
      by-test (leb count 74)
      (λ t. let few = leb-true count 74 t in omega (arith, length-take count array, ap length (k.few few)))
      (λ f. absurd (omega (arith, k.many (leb-false count 74 f))))

  pub other-count : (count ≡ 4 → ⊥) → false ≡ same l acgt
  unfolding acgt bytes
  other-count n = by-test (same l acgt) (λ t. absurd (n (listed-count (ap length (same_true l acgt t))))) sym

  pub four-symbols : count ≡ 4 → eqb (get_or array 0 0) 65 && eqb (get_or array 1 0) 67 && eqb (get_or array 2 0) 71 && eqb (get_or array 3 0) 84 ≡ same l acgt
  unfolding acgt bytes same
  four-symbols e =
      let these : l ≡ get_or array 0 0 ∷ get_or array 1 0 ∷ get_or array 2 0 ∷ get_or array 3 0 ∷ [] = sym (k.few (omega arith)) ∙ rw e (take-four array (omega arith)) in
      rw these (and-four (eqb (get_or array 0 0) 65) (eqb (get_or array 1 0) 67) (eqb (get_or array 2 0) 71) (eqb (get_or array 3 0) 84))
