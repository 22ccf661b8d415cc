-- The states of a set, put by their signs: what is left of them, and whatever puts that makes all of them put. Assumes nothing.
use Prim.Native.Nat.{ℕ, ◌+◌, ◌<◌, ◌≤◌}
use Rattle.block.proofs.RisingLaws.{rising-first, rising-rest}
use Rattle.block.specs.Sound.{rising, sound_set}
use Rattle.block.specs.declared.data.DataType.{DataType}
use Rattle.emit.proofs.PutLaws.{puts_then}
use Rattle.emit.specs.Puts.{Puts}
use Rattle.naming.proofs.RowLaws.{drop-behind}
use Rattle.lexer.specs.Base.{is_empty}
use Rattle.record.specs.Decimal.{decimal}
use Rattle.record.specs.Form.{form_set, sign}
use Rattle.record.specs.Spell.{dotted}
use Rattle.writing.proofs.SignsRead.{front-byte, front_rest, sign-index}
use Rattle.writing.specs.CellsPut.{SetPut, SignRead, TextPut}
use Rattle.writing.specs.Signs.{Signed}
use Rattle.writing.specs.declared.Putting.{Putting}
use Rattle.writing.specs.declared.cells.Sign.{Sign}
use lib.ListN.{length, get_or, drop, drop_of_length-le, length-append}
use mathlib.Core.Bool.{true, false≢true}
use mathlib.Core.List.{List, [], ◌∷◌, ◌++◌, append_assoc}
use mathlib.Core.Path.{◌≡◌, refl, sym, ap, ◌∙◌}
use native.Mathlib.Omega.{arith}

-- Some states of a set are left at a place.
pub record Left (symbols b : List ℕ) (from : ℕ) (s : List ℕ) (x : ℕ) (rest before : List ℕ) (n : ℕ) (after : List ℕ) (at m : ℕ) : Type 0 where
  pub left : List ℕ
  pub sound : sound_set (length symbols) left ≡ true
  pub here : drop at b ≡ dotted left ++ (x ∷ rest)
  pub ahead : at + length (dotted left) ≡ from + length (dotted s)
  pub back : (last : List ℕ) (next : ℕ) → Puts after m (form_set symbols left) last next → Puts before n (form_set symbols s) last next

-- Where a set stands, some of its states are left.
abbrev pub Members : List ℕ → List ℕ → ℕ → List ℕ → ℕ → List ℕ → ℕ → ℕ → Type 0
Members b signs from before n after at m =
    (t : DataType) (symbols : List ℕ) → Signed t symbols signs → (s : List ℕ) (x : ℕ) (rest : List ℕ) → x < 46 → sound_set (length symbols) s ≡ true
    → drop from b ≡ dotted s ++ (x ∷ rest) → Left symbols b from s x rest before n after at m

-- A sound set is not empty, and its indices rise.
no-set : {X : Type 0} (count : ℕ) → sound_set count [] ≡ true → X
unfolding sound_set is_empty
no-set count h = absurd (false≢true h)

set-rises : (count i : ℕ) (r : List ℕ) → sound_set count (i ∷ r) ≡ true → rising count (i ∷ r) ≡ true
unfolding sound_set is_empty
set-rises count i r h = h

set_rest : (count i j : ℕ) (r : List ℕ) → sound_set count (i ∷ j ∷ r) ≡ true → sound_set count (j ∷ r) ≡ true
unfolding sound_set is_empty
set_rest count i j r h = rising-rest count i (j ∷ r) h

-- Nothing stands behind the end.
pub none-behind : {X : Type 0} (b : List ℕ) (at x : ℕ) (l rest : List ℕ) → length b ≤ at → drop at b ≡ l ++ (x ∷ rest) → X
none-behind b at x l rest h e = absurd (omega (arith, simp length-append at (ap length (sym (drop_of_length-le b h) ∙ e))))

-- All are left at the start.
pub members-start : (b signs : List ℕ) (from : ℕ) (before : List ℕ) (n : ℕ) → Members b signs from before n before from n
members-start b signs from before n t symbols g s x rest end sound here = record { left = s; sound = sound; here = here; ahead = refl; back = λ last next p. p }

module _ (b signs : List ℕ) (from : ℕ) (before : List ℕ) (n : ℕ) (buffer : List ℕ) (at m : ℕ) (k : Members b signs from before n buffer at m) where
  -- Behind the end no set stood.
  pub members-none : {r : Putting} → length b ≤ at → SetPut form_set b signs from before n buffer r
  members-none h t symbols g s x rest end sound here = let l = k t symbols g s x rest end sound here in none-behind b at x (dotted l.left) rest h l.here

  module _ (r : Sign) (read : SignRead b signs at r) (after : List ℕ) (next : ℕ) (p : Puts buffer m (λ behind. r.sign ∷ behind) after next) where
    module _ {t : DataType} {symbols : List ℕ} (g : Signed t symbols signs) (s : List ℕ) (x : ℕ) (rest : List ℕ) (end : x < 46) where
      -- One index alone, and one that others follow.
      alone : (i : ℕ) → sound_set (length symbols) (i ∷ []) ≡ true → drop at b ≡ decimal i ++ (x ∷ rest)
          → (r.sign ≡ sign symbols i) × (r.at ≡ at + length (decimal i)) × (get_or b r.at 0 ≡ x)
      alone i sound here =
          let q = sign-index b signs at r read g i x rest (rising-first (length symbols) i [] (set-rises (length symbols) i [] sound)) (omega arith) here in
          (q.0, q.1, rw q.1 (front-byte b (at + length (decimal i)) x rest (drop-behind b at (decimal i) (x ∷ rest) here)))

      followed : (i j : ℕ) (l : List ℕ) → sound_set (length symbols) (i ∷ j ∷ l) ≡ true → drop at b ≡ (decimal i ++ (46 ∷ dotted (j ∷ l))) ++ (x ∷ rest)
          → (r.sign ≡ sign symbols i) × (r.at ≡ at + length (decimal i)) × (drop r.at b ≡ 46 ∷ (dotted (j ∷ l) ++ (x ∷ rest)))
      followed i j l sound here =
          let e = rw append_assoc at here in
          let q = sign-index b signs at r read g i 46 (dotted (j ∷ l) ++ (x ∷ rest)) (rising-first (length symbols) i (j ∷ l) (set-rises (length symbols) i (j ∷ l) sound)) (omega arith) e in
          (q.0, q.1, rw q.1 (drop-behind b at (decimal i) (46 ∷ (dotted (j ∷ l) ++ (x ∷ rest))) e))

      -- Behind a dot the others are left.
      turned : get_or b r.at 0 ≡ 46 → (l : List ℕ) → sound_set (length symbols) l ≡ true → drop at b ≡ dotted l ++ (x ∷ rest) → at + length (dotted l) ≡ from + length (dotted s)
          → ((last : List ℕ) (next : ℕ) → Puts buffer m (form_set symbols l) last next → Puts before n (form_set symbols s) last next)
          → Left symbols b from s x rest before n after (r.at + 1) next
      unfolding dotted form_set
      turned dot [] sound here ahead back = no-set (length symbols) sound
      turned dot (i ∷ []) sound here ahead back = let q = alone i sound here in absurd (omega (arith, q.2))
      turned dot (i ∷ j ∷ l) sound here ahead back =
          let q = followed i j l sound here in
          record {
            left = j ∷ l;
            sound = set_rest (length symbols) i j l sound;
            here = front_rest b r.at 46 (dotted (j ∷ l) ++ (x ∷ rest)) q.2;
            ahead = omega (arith, q.1, length-append (decimal i) (46 ∷ dotted (j ∷ l)));
            back = λ last next' p'. back last next' (rw q.0 at (puts_then p p'));
          }

      -- Where no dot stands, all are put.
      ended : (get_or b r.at 0 ≡ 46 → ⊥) → (l : List ℕ) → sound_set (length symbols) l ≡ true → drop at b ≡ dotted l ++ (x ∷ rest) → at + length (dotted l) ≡ from + length (dotted s)
          → ((last : List ℕ) (next : ℕ) → Puts buffer m (form_set symbols l) last next → Puts before n (form_set symbols s) last next)
          → TextPut from (dotted s) before n (form_set symbols s) after (record { at = r.at; n = next })
      unfolding dotted form_set
      ended other [] sound here ahead back = no-set (length symbols) sound
      ended other (i ∷ []) sound here ahead back = let q = alone i sound here in record { next = q.1 ∙ ahead; put = back after next (rw q.0 at p) }
      ended other (i ∷ j ∷ l) sound here ahead back = let q = followed i j l sound here in absurd (other (front-byte b r.at 46 (dotted (j ∷ l) ++ (x ∷ rest)) q.2))

    pub members-turn : get_or b r.at 0 ≡ 46 → Members b signs from before n after (r.at + 1) next
    members-turn dot t symbols g s x rest end sound here =
        let l = k t symbols g s x rest end sound here in
        turned g s x rest end dot l.left l.sound l.here l.ahead l.back

    pub members-end : (get_or b r.at 0 ≡ 46 → ⊥) → SetPut form_set b signs from before n after (record { at = r.at; n = next })
    members-end other t symbols g s x rest end sound here =
        let l = k t symbols g s x rest end sound here in
        ended g s x rest end other l.left l.sound l.here l.ahead l.back
