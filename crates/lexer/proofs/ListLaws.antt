-- Laws of lists that the walks over a text rest on: what stands from an index on. Assumes nothing.
use Prim.Native.Nat.{ℕ, suc, ◌+◌, ◌-◌, ◌<◌}
use Rattle.lexer.proofs.Basics.{by-test}
use borrow.Author.Tests.{ltb-true, ltb-false}
use lib.Dec.{ltb}
use lib.ListN.{length, get_or, drop, take, drop_of_length-le, length-map, get_or-map, get_or-eq_default}
use lib.Seq.{drop-cons, drop-drop}
use mathlib.Core.List.{List, [], ◌∷◌, map}
use mathlib.Core.Path.{◌≡◌, ap, ◌∙◌}
use native.Mathlib.Numerals.{add-one}
use native.Mathlib.Omega.{arith}

-- From an index below the length on: the byte there, and what stands from the next index on.
pub drop-next : (l : List ℕ) (i : ℕ) → i < length l → drop i l ≡ get_or l i 0 ∷ drop (i + 1) l
drop-next l i h = rw add-one (drop-cons l i 0 h)

-- Up to an end behind it: the byte there, and what stands from the next index up to the end.
pub take_next : (l : List ℕ) (i e : ℕ) → i < e → i < length l → take (e - i) (drop i l) ≡ get_or l i 0 ∷ take (e - (i + 1)) (drop (i + 1) l)
take_next l i e h k =
    let one : e - i ≡ suc (e - (i + 1)) = omega arith in
    rw (one, drop-next l i k)

-- A number other than 0 stands within the list.
pub some-within : (l : List ℕ) (i : ℕ) → (get_or l i 0 ≡ 0 → ⊥) → i < length l
some-within l i some = by-test (ltb i (length l)) (ltb-true i (length l)) (λ f. absurd (some (get_or-eq_default l 0 (ltb-false i (length l) f))))

pub within-at : (l : List ℕ) (i b : ℕ) → 0 < b → get_or l i 0 ≡ b → i < length l
within-at l i b some e = some-within l i (λ z. omega arith)

-- What holds of a rest, by whether the text has a byte there.
pub drop-cases : (P : List ℕ → Type 0) (l : List ℕ) (i : ℕ) → (i < length l → P (get_or l i 0 ∷ drop (i + 1) l)) → P [] → P (drop i l)
drop-cases P l i here past =
    by-test (ltb i (length l)) (λ t. let h = ltb-true i (length l) t in rw (drop-next l i h) (here h)) (λ f. rw (drop_of_length-le l (ltb-false i (length l) f)) past)

-- What stands behind the first byte of a rest is the rest one place on.
pub drop-tail : (text : List ℕ) (i b : ℕ) (r : List ℕ) → b ∷ r ≡ drop i text → r ≡ drop (suc i) text
drop-tail text i b r e = ap (drop 1) e ∙ drop-drop 1 i text ∙ rw (add-one i)

-- The same of a list by a function, from an index on.
module _ {X : Type 0} (f : ℕ → X) where
  pub drop-map : (l : List ℕ) (i : ℕ) → i < length l → drop i (map f l) ≡ f (get_or l i 0) ∷ drop (i + 1) (map f l)
  drop-map l i h =
      let within : i < length (map f l) = rw length-map h in
      rw (add-one i) (drop-cons (map f l) i (f 0) within ∙ ap (λ x. x ∷ drop (suc i) (map f l)) (get_or-map f l i 0))
