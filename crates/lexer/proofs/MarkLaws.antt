-- The byte order mark at the front of a text: where the text begins behind it. Assumes nothing.
use Prim.Native.Nat.{ℕ, ◌+◌, ◌≤◌}
use Rattle.lexer.proofs.Basics.{by-test, and-false, and-true, and_assoc, eqb-sym}
use Rattle.std.specs.List.{starts_with}
use Rattle.lexer.specs.Base.{pick}
use Rattle.lexer.specs.Places.{first_byte}
use Rattle.lexer.specs.Tokens.{marked, unmarked}
use lib.Dec.{eqb}
use lib.ListN.{length, drop}
use mathlib.Core.Bool.{Bool, true, false, ◌&&◌}
use mathlib.Core.List.{List, [], ◌∷◌}
use mathlib.Core.Path.{◌≡◌, refl}
use native.Mathlib.Omega.{arith}

-- The first byte by a test whether the text starts with the mark.
pub first-told : (text : List ℕ) (b : Bool) → b ≡ starts_with eqb text (239 ∷ 187 ∷ 191 ∷ []) → first_byte text ≡ pick b 3 0
unfolding first_byte marked pick
first-told [] b e = rw e
first-told (x ∷ []) b e = rw (e, and-false (eqb 239 x))
first-told (x ∷ y ∷ []) b e = rw (e, and-false (eqb 187 y), and-false (eqb 239 x))
first-told (x ∷ y ∷ z ∷ r) b e = rw (e, eqb-sym 239 x, eqb-sym 187 y, eqb-sym 191 z, and-true, and_assoc)

-- What stands from the first byte on is the text without its mark.
pub drop-first : (text : List ℕ) → drop (first_byte text) text ≡ unmarked text
unfolding first_byte marked unmarked pick
drop-first [] = refl
drop-first (a ∷ []) = refl
drop-first (a ∷ b ∷ []) = refl
drop-first (a ∷ b ∷ c ∷ r) = go (eqb a 239 && eqb b 187 && eqb c 191)
  where
    go : (t : Bool) → drop (pick t 3 0) (a ∷ b ∷ c ∷ r) ≡ pick t r (a ∷ b ∷ c ∷ r)
    go true = refl
    go false = refl

pub unmarked-length : (text : List ℕ) → first_byte text + length (unmarked text) ≡ length text
unfolding first_byte marked unmarked pick
unmarked-length [] = refl
unmarked-length (a ∷ []) = omega arith
unmarked-length (a ∷ b ∷ []) = omega arith
unmarked-length (a ∷ b ∷ c ∷ r) = by-test (eqb a 239 && eqb b 187 && eqb c 191) (λ t. rw t (omega arith)) (λ f. rw f (omega arith))

pub first-within : (text : List ℕ) → first_byte text ≤ length text
first-within text = omega (arith, unmarked-length text)
