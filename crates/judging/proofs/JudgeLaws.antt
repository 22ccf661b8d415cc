-- Laws of judging parts of a record: where nothing stands, where one thing stands, a part that goes on behind its first bytes, and the same part taken
-- for something else. Assumes nothing.
use Rattle.std.specs.Prelude.{Some, None, Option}
use Prim.Native.Nat.{ℕ, ◌+◌}
use Rattle.judging.specs.Judges.{Stands, Judges}
use Rattle.naming.proofs.RowLaws.{drop-behind}
use lib.ListN.{length, drop, length-append}
use mathlib.Core.List.{List, [], ◌++◌, append_assoc}
use mathlib.Core.Path.{◌≡◌, refl, sym, ap, ◌∙◌}
use native.Mathlib.Nat.{add-zero}
use native.Mathlib.Omega.{arith}

-- The answer that there is none is no end.
pub wrong-no-end : (j : ℕ) → None ≡ Some j → ⊥
wrong-no-end j e = let z : ◌≡◌ {A = ℕ} 0 1 = cc in omega arith

-- Ends that are the same answer are equal.
same_end : (j k : ℕ) → Some j ≡ Some k → j ≡ k
same_end j k e = cc

-- What is no value is none.
pub no_some : {A : Type 0} (r : Option A) → ((a : A) → r ≡ Some a → ⊥) → r ≡ None
no_some None not = refl
no_some (Some a) not = absurd (not a refl)

module _ {A : Type 0} (b : List ℕ) (i : ℕ) (good : A → Type 0) (spelled : A → List ℕ) where
  -- Where nothing good stands, the answer is that there is none.
  pub judges-none : ((what : A) (rest : List ℕ) → good what → drop i b ≡ spelled what ++ rest → ⊥) → Judges b i good spelled None
  judges-none none = record { found = λ j e. absurd (wrong-no-end j e); all = λ what rest g e. absurd (none what rest g e) }

  -- Where something good stands, and all that is good and stands there ends with it, the answer is its end.
  pub judges-one : (what : A) (rest : List ℕ) → good what → drop i b ≡ spelled what ++ rest
      → ((w : A) (t : List ℕ) → good w → drop i b ≡ spelled w ++ t → length (spelled w) ≡ length (spelled what))
      → Judges b i good spelled (Some (i + length (spelled what)))
  judges-one what rest g e only = record { found = found; all = λ w t h f. ap (λ n. Some (i + n)) (sym (only w t h f)) }
    where
      found : (j : ℕ) → Some (i + length (spelled what)) ≡ Some j → Stands b i good spelled j
      found j q =
          let end : i + length (spelled what) ≡ j = same_end (i + length (spelled what)) j q in
          let behind : drop j b ≡ rest = ap (λ n. drop n b) (sym end) ∙ drop-behind b i (spelled what) rest e in
          record { what = what; sound = g; here = rw behind e; end = sym end }

-- A part whose first bytes are these: what is good and stands there is the longer one of what is good and stands behind them.
module _ {A B : Type 0} (b : List ℕ) (i k : ℕ) (front : List ℕ) (good : A → Type 0) (spelled : A → List ℕ)
    (more : B → Type 0) (whole : B → List ℕ) (longer : A → B) (next : k ≡ i + length front) (here : drop i b ≡ front ++ drop k b)
    (spells : (a : A) → whole (longer a) ≡ front ++ spelled a)
    (alike : (a : A) (rest : List ℕ) → drop k b ≡ spelled a ++ rest → (good a → more (longer a)) × (more (longer a) → good a))
    (shorter : (w : B) (rest : List ℕ) → more w → drop i b ≡ whole w ++ rest → (a : A) × (w ≡ longer a)) where
  -- The longer one's bytes are those in front and the others.
  spelled-whole : (a : A) (rest : List ℕ) → whole (longer a) ++ rest ≡ front ++ (spelled a ++ rest)
  spelled-whole a rest = rw (spells a) (append_assoc front (spelled a) rest)

  -- Both end at the same place.
  length_whole : (a : A) → i + length (whole (longer a)) ≡ k + length (spelled a)
  length_whole a = omega (arith, simp length-append at (ap length (spells a)))

  -- It is judged as what stands behind them.
  pub judges-on : (r : Option ℕ) → Judges b k good spelled r → Judges b i more whole r
  judges-on r judged = record { found = found; all = all }
    where
      found : (j : ℕ) → r ≡ Some j → Stands b i more whole j
      found j e =
          let s = judged.found j e in
          let a = s.what in
          let stands : drop i b ≡ whole (longer a) ++ drop j b = here ∙ ap (λ t. front ++ t) s.here ∙ sym (spelled-whole a (drop j b)) in
          record { what = longer a; sound = (alike a (drop j b) s.here).0 s.sound; here = stands; end = s.end ∙ sym (length_whole a) }

      all : (w : B) (rest : List ℕ) → more w → drop i b ≡ whole w ++ rest → r ≡ Some (i + length (whole w))
      all w rest g e =
          let (a, same) = shorter w rest g e in
          let stands : drop i b ≡ front ++ (spelled a ++ rest) = (rw same at e) ∙ spelled-whole a rest in
          let behind : drop k b ≡ spelled a ++ rest = rw next (drop-behind b i front (spelled a ++ rest) stands) in
          judged.all a rest ((alike a rest behind).1 (rw same at g)) behind ∙ ap Some (sym (length_whole a) ∙ ap (λ v. i + length (whole v)) (sym same))

-- What is spelled alike is judged alike: what is good and stands there is made of what is good and stands there.
module _ {A B : Type 0} (b : List ℕ) (i : ℕ) (good : A → Type 0) (spelled : A → List ℕ) (more : B → Type 0) (whole : B → List ℕ) (made : A → B)
    (spells : (a : A) → whole (made a) ≡ spelled a)
    (alike : (a : A) (rest : List ℕ) → drop i b ≡ spelled a ++ rest → (good a → more (made a)) × (more (made a) → good a))
    (maker : (w : B) (rest : List ℕ) → more w → drop i b ≡ whole w ++ rest → (a : A) × (w ≡ made a)) where
  pub judges-as : (r : Option ℕ) → Judges b i good spelled r → Judges b i more whole r
  judges-as = judges-on b i i [] good spelled more whole made (sym (add-zero i)) refl spells alike maker
