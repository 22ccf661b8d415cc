-- A cell put by its sign, or as a set between two signs; and which cells are one byte. Assumes nothing.
use Prim.Native.Nat.{ℕ, ◌+◌, ◌/◌, ◌%◌, ◌<◌, ◌≤◌}
use Rattle.block.specs.Cell.{Cell, state, uncertain, polymorphic, missing, gap}
use Rattle.block.specs.Sound.{sound_cell}
use Rattle.block.specs.declared.data.DataType.{DataType}
use Rattle.emit.proofs.DecimalMade.{decimal-one}
use Rattle.emit.proofs.PutLaws.{puts_then}
use Rattle.emit.specs.Puts.{Puts}
use Rattle.lexer.proofs.Basics.{by-test}
use Rattle.lexer.specs.Base.{pick}
use Rattle.record.specs.Decimal.{decimal}
use Rattle.record.specs.Form.{form_cell, form_set}
use Rattle.record.specs.Spell.{dotted, spell_cell}
use Rattle.writing.proofs.MembersPut.{none-behind}
use Rattle.writing.proofs.SignsRead.{front-byte, front_rest, pair-digits, second-byte, sign-index, sign-one, signs-digit, signs-gap, signs-missing}
use Rattle.writing.specs.CellsPut.{CellPut, SetPut, ShortRead, SignRead, form_within}
use Rattle.writing.specs.Signs.{Signed, sign_by, sign_of}
use Rattle.writing.specs.declared.Putting.{Putting}
use Rattle.writing.specs.declared.cells.Sign.{Sign}
use borrow.Author.Tests.{ltb-false, ltb-true}
use lib.Dec.{ltb}
use lib.ListN.{length, get_or, drop}
use mathlib.Core.Bool.{true}
use mathlib.Core.List.{List, ◌∷◌, ◌++◌}
use mathlib.Core.Path.{◌≡◌, refl, sym, ap, ◌∙◌}
use native.Mathlib.Omega.{arith}

-- A sign, a set and a sign are the set between the two.
pub set-within : (b signs : List ℕ) (at first last : ℕ) {before buffer after end : List ℕ} {n m k : ℕ} {r : Putting} → Puts before n (λ behind. first ∷ behind) buffer m
    → SetPut form_set b signs at buffer m after r → Puts after r.n (λ behind. last ∷ behind) end k
    → SetPut (form_within first last) b signs at before n end (record { at = r.at; n = k })
unfolding form_within
set-within b signs at first last p q e t symbols g s x rest lower sound here =
    let h = q t symbols g s x rest lower sound here in
    record { next = h.next; put = puts_then p (puts_then h.put e) }

-- The first byte of an index is a digit.
state-first : (b : List ℕ) (at i : ℕ) (l : List ℕ) → i < 74 → drop at b ≡ decimal i ++ l → (48 ≤ get_or b at 0) × (get_or b at 0 ≤ 57)
state-first b at i l few e = by-test (ltb i 10) (λ t. one (ltb-true i 10 t)) (λ f. two (ltb-false i 10 f))
  where
    one : i < 10 → (48 ≤ get_or b at 0) × (get_or b at 0 ≤ 57)
    one low = let y = front-byte b at (48 + i) l (rw (decimal-one i low) at e) in (omega arith, omega arith)

    two : 10 ≤ i → (48 ≤ get_or b at 0) × (get_or b at 0 ≤ 57)
    two high = let y = front-byte b at (48 + i / 10) ((48 + i % 10) ∷ l) (rw (pair-digits i high few) at e) in (omega arith, omega arith)

-- A sound state is below 74.
state-few : {t : DataType} {symbols signs : List ℕ} → Signed t symbols signs → (i : ℕ) → sound_cell (length symbols) (state i) ≡ true → (i < length symbols) × (i < 74)
unfolding sound_cell
state-few {symbols = symbols} g i sound = let low = ltb-true i (length symbols) sound in (low, omega (arith, g.few))

module _ (b signs : List ℕ) (at : ℕ) (before : List ℕ) (n : ℕ) (after : List ℕ) (r : Putting) where
  -- Where `u` stands the cell is an uncertain set, and where `p` stands a polymorphic one.
  pub cell-uncertain : get_or b at 0 ≡ 117 → SetPut (form_within 123 125) b signs (at + 1) before n after r → CellPut b signs at before n after r
  unfolding spell_cell form_cell form_within sound_cell
  cell-uncertain u p t symbols g (state i) x rest lower sound here = absurd (omega (arith, (state-first b at i (x ∷ rest) (state-few g i sound).1 here).1))
  cell-uncertain u p t symbols g (uncertain s) x rest lower sound here =
      let h = p t symbols g s x rest lower sound (front_rest b at 117 (dotted s ++ (x ∷ rest)) here) in
      record { next = h.next ∙ omega arith; put = h.put }
  cell-uncertain u p t symbols g (polymorphic s) x rest lower sound here = absurd (omega (arith, front-byte b at 112 (dotted s ++ (x ∷ rest)) here))
  cell-uncertain u p t symbols g missing x rest lower sound here = absurd (omega (arith, front-byte b at 109 (x ∷ rest) here))
  cell-uncertain u p t symbols g gap x rest lower sound here = absurd (omega (arith, front-byte b at 103 (x ∷ rest) here))

  pub cell-polymorphic : get_or b at 0 ≡ 112 → SetPut (form_within 40 41) b signs (at + 1) before n after r → CellPut b signs at before n after r
  unfolding spell_cell form_cell form_within sound_cell
  cell-polymorphic u p t symbols g (state i) x rest lower sound here = absurd (omega (arith, (state-first b at i (x ∷ rest) (state-few g i sound).1 here).1))
  cell-polymorphic u p t symbols g (polymorphic s) x rest lower sound here =
      let h = p t symbols g s x rest lower sound (front_rest b at 112 (dotted s ++ (x ∷ rest)) here) in
      record { next = h.next ∙ omega arith; put = h.put }
  cell-polymorphic u p t symbols g (uncertain s) x rest lower sound here = absurd (omega (arith, front-byte b at 117 (dotted s ++ (x ∷ rest)) here))
  cell-polymorphic u p t symbols g missing x rest lower sound here = absurd (omega (arith, front-byte b at 109 (x ∷ rest) here))
  cell-polymorphic u p t symbols g gap x rest lower sound here = absurd (omega (arith, front-byte b at 103 (x ∷ rest) here))

  -- Behind the end no cell stands.
  pub cell-none : length b ≤ at → CellPut b signs at before n after r
  cell-none h t symbols g c x rest lower sound here = none-behind b at x (spell_cell c) rest h here

-- Where neither stands, the cell is a state, missing or a gap, and its sign is put.
pub cell-single : (b signs : List ℕ) (at : ℕ) (before : List ℕ) (n : ℕ) (after : List ℕ) (r : Sign) (next : ℕ) → (get_or b at 0 ≡ 117 → ⊥) → (get_or b at 0 ≡ 112 → ⊥) → SignRead b signs at r
    → Puts before n (λ behind. r.sign ∷ behind) after next → CellPut b signs at before n after (record { at = r.at; n = next })
unfolding spell_cell form_cell
cell-single b signs at before n after r next u v read p t symbols g (state i) x rest lower sound here =
    let q = sign-index b signs at r read g i x rest (state-few g i sound).0 (omega arith) here in
    record { next = q.1; put = rw q.0 at p }
cell-single b signs at before n after r next u v read p t symbols g (uncertain s) x rest lower sound here = absurd (u (front-byte b at 117 (dotted s ++ (x ∷ rest)) here))
cell-single b signs at before n after r next u v read p t symbols g (polymorphic s) x rest lower sound here = absurd (v (front-byte b at 112 (dotted s ++ (x ∷ rest)) here))
cell-single b signs at before n after r next u v read p t symbols g missing x rest lower sound here =
    let q = sign-one b signs at r read 109 x rest here (omega arith) in
    record { next = q.1; put = rw (q.0 ∙ signs-missing g) at p }
cell-single b signs at before n after r next u v read p t symbols g gap x rest lower sound here =
    let q = sign-one b signs at r read 103 x rest here (omega arith) in
    record { next = q.1; put = rw (q.0 ∙ signs-gap g) at p }

-- Where a cell of one byte and a blank stand, the cell is that byte, and put by that sign; the byte behind it is the blank.
pub record Short (t : DataType) (symbols : List ℕ) (c : Cell) (x s : ℕ) : Type 0 where
  pub size : length (spell_cell c) ≡ 1
  pub blank : x ≡ 32
  pub form : (behind : List ℕ) → s ∷ behind ≡ form_cell t symbols c behind

-- No set begins with such a byte.
unsigned-u : {t : DataType} {symbols signs : List ℕ} → Signed t symbols signs → get_or signs 117 0 ≡ 0
unfolding sign_of sign_by pick
unsigned-u g = g.each 117 (omega arith)

unsigned-p : {t : DataType} {symbols signs : List ℕ} → Signed t symbols signs → get_or signs 112 0 ≡ 0
unfolding sign_of sign_by pick
unsigned-p g = g.each 112 (omega arith)

pub short-cell : (b signs : List ℕ) (at s : ℕ) → ShortRead b signs at s → (s ≡ 0 → ⊥) → (t : DataType) (symbols : List ℕ) → Signed t symbols signs
    → (c : Cell) (x : ℕ) (rest : List ℕ) → sound_cell (length symbols) c ≡ true → drop at b ≡ spell_cell c ++ (x ∷ rest) → Short t symbols c x s
unfolding spell_cell form_cell
short-cell b signs at s read some t symbols g (state i) x rest sound here = by-test (ltb i 10) (λ t. one (ltb-true i 10 t)) (λ f. two (ltb-false i 10 f))
  where
    one : i < 10 → Short t symbols (state i) x s
    one low =
        let digits = decimal-one i low in
        let e = rw digits at here in
        record {
          size = ap length digits;
          blank = sym (second-byte b at (48 + i) x rest e) ∙ read.blank;
          form = λ behind. ap (λ y. y ∷ behind) (read.sign ∙ ap (λ y. get_or signs y 0) (front-byte b at (48 + i) (x ∷ rest) e) ∙ signs-digit g i low);
        }

    two : 10 ≤ i → Short t symbols (state i) x s
    two high = absurd (omega (arith, read.blank, second-byte b at (48 + i / 10) (48 + i % 10) (x ∷ rest) (rw (pair-digits i high (state-few g i sound).1) at here)))
short-cell b signs at s read some t symbols g (uncertain u) x rest sound here =
    absurd (some (read.sign ∙ ap (λ y. get_or signs y 0) (front-byte b at 117 (dotted u ++ (x ∷ rest)) here) ∙ unsigned-u g))
short-cell b signs at s read some t symbols g (polymorphic u) x rest sound here =
    absurd (some (read.sign ∙ ap (λ y. get_or signs y 0) (front-byte b at 112 (dotted u ++ (x ∷ rest)) here) ∙ unsigned-p g))
short-cell b signs at s read some t symbols g missing x rest sound here =
    record {
      size = refl;
      blank = sym (second-byte b at 109 x rest here) ∙ read.blank;
      form = λ behind. ap (λ y. y ∷ behind) (read.sign ∙ ap (λ y. get_or signs y 0) (front-byte b at 109 (x ∷ rest) here) ∙ signs-missing g);
    }
short-cell b signs at s read some t symbols g gap x rest sound here =
    record {
      size = refl;
      blank = sym (second-byte b at 103 x rest here) ∙ read.blank;
      form = λ behind. ap (λ y. y ∷ behind) (read.sign ∙ ap (λ y. get_or signs y 0) (front-byte b at 103 (x ∷ rest) here) ∙ signs-gap g);
    }
