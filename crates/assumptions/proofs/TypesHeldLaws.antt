-- Laws of the types that work memory holds. Assumes nothing.
use Prim.Native.Nat.{ℕ, zero, suc, ◌+◌, ◌-◌, ◌≤◌, ◌<◌}
use Rattle.assumptions.specs.TypesHeld.{type_number, type_of, types_held}
use Rattle.block.specs.Typeset.{Types}
use Rattle.block.specs.declared.model.CharacterOrdering.{CharacterOrdering}
use lib.ListN.{length, get_or, take, drop, set, length-take, length-drop, length-replicate, replicate}
use Rattle.std.proofs.lemmas.List.{get_or-append_right, get_or_append_left, get_or-replicate}
use borrow.Rule.Slice.PartMut.{put_mid}
use lib.Seq.{get_or-set_same, get_or-set_other}
use mathlib.Core.List.{List, [], ◌∷◌, ◌++◌}
use mathlib.Core.Option.{none, some}
use mathlib.Core.Path.{◌≡◌, refl, ap, ◌∙◌}
use native.Mathlib.Nat.{add-zero}
use native.Mathlib.Omega.{arith}

-- The number of a type stands for it.
pub type-of-number : (o : CharacterOrdering) → type_of (type_number o) ≡ some o
unfolding type_of type_number
type-of-number CharacterOrdering.Unordered = refl
type-of-number CharacterOrdering.Ordered = refl

-- A number that is not 0 is a type.
pub type-of-some : (n : ℕ) → (n ≡ 0 → ⊥) → (o : CharacterOrdering) × (type_of n ≡ some o)
unfolding type_of
type-of-some zero h = absurd (h refl)
type-of-some (suc zero) h = (CharacterOrdering.Unordered, refl)
type-of-some (suc (suc n)) h = (CharacterOrdering.Ordered, refl)

-- Types are the same where the numbers are.
held-alike : (work after : List ℕ) (at n : ℕ) → ((i : ℕ) → at ≤ i → i < at + n → get_or after i 0 ≡ get_or work i 0) → types_held after at n ≡ types_held work at n
unfolding types_held
held-alike work after at zero h = refl
held-alike work after at (suc n) h =
    let here : get_or after at 0 ≡ get_or work at 0 = h at (omega arith) (omega arith) in
    rw (here, held-alike work after (suc at) n (λ i l u. h i (omega arith) (omega arith)))

-- One character more, behind the others.
pub held_more : (work : List ℕ) (at n : ℕ) → types_held work at (suc n) ≡ types_held work at n ++ (type_of (get_or work (at + n) 0) ∷ [])
unfolding types_held
held_more work at zero = rw (add-zero at)
held_more work at (suc n) =
    let next : suc at + n ≡ at + suc n = omega arith in
    ap (λ (ts : Types). type_of (get_or work at 0) ∷ ts) (rw next at (held_more work (suc at) n))

-- A store before a place, or behind all, leaves the types from there on.
module _ (work : List ℕ) (i v at n : ℕ) where
  pub held-set-before : i < at → types_held (set work i v) at n ≡ types_held work at n
  held-set-before h = held-alike work (set work i v) at n (λ j l u. get_or-set_other work i j v 0 (λ e. omega arith))

  held-set-behind : at + n ≤ i → types_held (set work i v) at n ≡ types_held work at n
  held-set-behind h = held-alike work (set work i v) at n (λ j l u. get_or-set_other work i j v 0 (λ e. omega arith))

-- The next character is given a type.
pub held-set-next : (work : List ℕ) (at n v : ℕ) → at + n < length work → types_held (set work (at + n) v) at (suc n) ≡ types_held work at n ++ (type_of v ∷ [])
held-set-next work at n v h =
    held_more (set work (at + n) v) at n
    ∙ rw (held-set-behind work (at + n) v at n (omega arith), get_or-set_same work (at + n) v 0 h)

-- Where the numbers are 0, no character has a type.
held-clear : (work : List ℕ) (at n : ℕ) → ((i : ℕ) → at ≤ i → i < at + n → get_or work i 0 ≡ 0) → types_held work at n ≡ replicate n none
unfolding types_held type_of
held-clear work at zero h = refl
held-clear work at (suc n) h =
    rw (h at (omega arith) (omega arith), held-clear work (suc at) n (λ i l u. h i (omega arith) (omega arith)))

-- The types behind a part of work memory that is cleared.
pub cleared : (work part : List ℕ) (at k count : ℕ) → k ≡ count → at + count ≤ length work → part ≡ replicate (length (take k (drop at work))) 0 → types_held (put_mid at k work part) at count ≡ replicate count none
cleared work part at k count e fits p =
    let size : length (take k (drop at work)) ≡ count = omega (arith, length-take k (drop at work), length-drop at work) in
    let zeros : part ≡ replicate count 0 = p ∙ rw size in
    held-clear (put_mid at k work part) at count
    (λ i l u.
    rw zeros
    (get_or-append_right (take at work) (replicate count 0 ++ drop k (drop at work)) at i 0 (omega (arith, length-take at work)) l
    ∙ get_or_append_left (replicate count 0) (drop k (drop at work)) 0 (i - at) (omega (arith, length-replicate {A = ℕ} count 0))
    ∙ get_or-replicate count (i - at) 0 0 (omega arith)))
