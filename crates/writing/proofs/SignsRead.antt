-- The sign that is read where a cell or an index of one byte stands, and where an index stands. Assumes nothing.
use Prim.Native.Nat.{ℕ, ◌+◌, ◌*◌, ◌-◌, ◌/◌, ◌%◌, ◌<◌, ◌≤◌}
use Rattle.block.specs.declared.data.DataType.{DataType}
use Rattle.emit.proofs.DecimalMade.{decimal-last, decimal-one}
use Rattle.naming.proofs.RowLaws.{drop-behind}
use Rattle.lexer.proofs.Basics.{and-false, and_both, by-test}
use Rattle.lexer.specs.Base.{pick}
use Rattle.record.specs.Decimal.{decimal, digit}
use Rattle.record.specs.Form.{gap_sign, missing_sign, sign}
use Rattle.writing.specs.CellsPut.{SignRead, sign_here, size_here, two_digits}
use Rattle.writing.specs.Signs.{Signed, sign_by, sign_of}
use Rattle.writing.specs.declared.cells.Sign.{Sign}
use Rattle.std.specs.Char.{is_ascii_digit}
use borrow.Author.Tests.{le-leb, lt-leb, ltb-false, ltb-true, ne_eqb}
use lib.Dec.{ltb}
use lib.ListN.{length, drop, get_or}
use lib.Seq.{get_or-drop}
use mathlib.Core.Bool.{Bool, true, false, ◌&&◌}
use mathlib.Core.List.{List, [], ◌∷◌, ◌++◌}
use mathlib.Core.Path.{◌≡◌, refl, sym, ap, ◌∙◌}
use native.Mathlib.Nat.{add-zero}
use native.Mathlib.Omega.{arith}

-- The first byte of what stands at a place, what stands behind it, and the second byte.
pub front-byte : (b : List ℕ) (i y : ℕ) (r : List ℕ) → drop i b ≡ y ∷ r → get_or b i 0 ≡ y
front-byte b i y r e = ap (λ n. get_or b n 0) (sym (add-zero i)) ∙ sym (get_or-drop i b 0 0) ∙ ap (λ l. get_or l 0 0) e

pub front_rest : (b : List ℕ) (i y : ℕ) (r : List ℕ) → drop i b ≡ y ∷ r → drop (i + 1) b ≡ r
front_rest b i y r e = drop-behind b i (y ∷ []) r e

pub second-byte : (b : List ℕ) (i y z : ℕ) (r : List ℕ) → drop i b ≡ y ∷ z ∷ r → get_or b (i + 1) 0 ≡ z
second-byte b i y z r e = front-byte b (i + 1) z r (front_rest b i y (z ∷ r) e)

-- Two bytes that are digits, and two of which the second is none.
module _ (y z : ℕ) where
  two-digits : 48 ≤ y → y ≤ 57 → 48 ≤ z → z ≤ 57 → two_digits y z ≡ true
  unfolding two_digits
  two-digits a b c d = and_both (and_both (le-leb 48 y a) (le-leb y 57 b)) (and_both (le-leb 48 z c) (le-leb z 57 d))

  not-two : z < 48 → two_digits y z ≡ false
  unfolding two_digits
  not-two h = rw (lt-leb 48 z h) (and-false _)

  -- Both tests tell whether they are.
  pub digits-told : {u v : Bool} → u ≡ is_ascii_digit y → v ≡ is_ascii_digit z → two_digits y z ≡ u && v
  unfolding two_digits
  digits-told p q = rw (p, q)

-- A number below 74 that is not one digit is two.
pub pair-digits : (n : ℕ) → 10 ≤ n → n < 74 → decimal n ≡ (48 + n / 10) ∷ (48 + n % 10) ∷ []
unfolding digit
pair-digits n low h = decimal-last n low ∙ rw (decimal-one (n / 10) (omega arith)) refl

-- The signs that a table holds: of a digit, of an index, of missing and of a gap.
module _ {t : DataType} {symbols signs : List ℕ} (g : Signed t symbols signs) where
  pub signs-digit : (i : ℕ) → i < 10 → get_or signs (48 + i) 0 ≡ sign symbols i
  unfolding sign_of sign_by pick
  signs-digit i h =
      let back : 48 + i - 48 ≡ i = omega arith in
      g.each (48 + i) (omega arith) ∙ rw (le-leb 48 (48 + i) (omega arith), le-leb (48 + i) 57 (omega arith)) (ap (sign symbols) back)

  signs-index : (i : ℕ) → i < 74 → get_or signs (128 + i) 0 ≡ sign symbols i
  unfolding sign_of sign_by pick
  signs-index i h =
      let back : 128 + i - 128 ≡ i = omega arith in
      g.each (128 + i) (omega arith)
      ∙ rw (le-leb 48 (128 + i) (omega arith), lt-leb (128 + i) 57 (omega arith), ne_eqb (128 + i) 109 (λ e. omega arith), ne_eqb (128 + i) 103 (λ e. omega arith), le-leb 128 (128 + i) (omega arith)) (ap (sign symbols) back)

  pub signs-missing : get_or signs 109 0 ≡ missing_sign t symbols
  unfolding sign_of sign_by pick
  signs-missing = g.each 109 (omega arith)

  pub signs-gap : get_or signs 103 0 ≡ gap_sign t symbols
  unfolding sign_of sign_by pick
  signs-gap = g.each 103 (omega arith)

-- What is read of two digits, and of any other two bytes.
module _ (b signs : List ℕ) (at z s : ℕ) (second : z ≡ get_or b (at + 1) 0) where
  pub read-two : two_digits (get_or b at 0) z ≡ true → s ≡ get_or signs (128 + ((get_or b at 0 - 48) * 10 + (z - 48))) 0 → SignRead b signs at (record { sign = s; at = at + 2 })
  unfolding sign_here size_here pick
  read-two h e = record { sign = rw (sym second, h) e; next = rw (sym second, h) }

  pub read_one : two_digits (get_or b at 0) z ≡ false → s ≡ get_or signs (get_or b at 0) 0 → SignRead b signs at (record { sign = s; at = at + 1 })
  unfolding sign_here size_here pick
  read_one h e = record { sign = rw (sym second, h) e; next = rw (sym second, h) }

module _ (b signs : List ℕ) (at : ℕ) (r : Sign) (read : SignRead b signs at r) where
  -- The next place is further on.
  pub sign-ahead : at < r.at
  unfolding size_here pick
  sign-ahead = by-test (two_digits (get_or b at 0) (get_or b (at + 1) 0)) (λ t. let n = rw t at read.next in omega arith) (λ f. let n = rw f at read.next in omega arith)

  -- Where a byte stands and behind it one that is no digit, the sign is that of the byte.
  pub sign-one : (y x : ℕ) (rest : List ℕ) → drop at b ≡ y ∷ x ∷ rest → x < 48 → (r.sign ≡ get_or signs y 0) × (r.at ≡ at + 1)
  unfolding sign_here size_here pick
  sign-one y x rest e h = (rw (front-byte b at y (x ∷ rest) e, second-byte b at y x rest e, not-two y x h) at read.sign, rw (front-byte b at y (x ∷ rest) e, second-byte b at y x rest e, not-two y x h) at read.next)

  -- Where two digits stand, the sign is that of the index that they are.
  sign-two : (y z : ℕ) (rest : List ℕ) → drop at b ≡ y ∷ z ∷ rest → two_digits y z ≡ true → (r.sign ≡ get_or signs (128 + ((y - 48) * 10 + (z - 48))) 0) × (r.at ≡ at + 2)
  unfolding sign_here size_here pick
  sign-two y z rest e h = (rw (front-byte b at y (z ∷ rest) e, second-byte b at y z rest e, h) at read.sign, rw (front-byte b at y (z ∷ rest) e, second-byte b at y z rest e, h) at read.next)

  -- Where an index stands and behind it a byte that is no digit, the sign is that of the index.
  pub sign-index : {t : DataType} {symbols : List ℕ} → Signed t symbols signs → (i x : ℕ) (rest : List ℕ) → i < length symbols → x < 48 → drop at b ≡ decimal i ++ (x ∷ rest)
      → (r.sign ≡ sign symbols i) × (r.at ≡ at + length (decimal i))
  sign-index {symbols = symbols} g i x rest below h e = by-test (ltb i 10) (λ t. one (ltb-true i 10 t)) (λ f. two (ltb-false i 10 f))
    where
      one : i < 10 → (r.sign ≡ sign symbols i) × (r.at ≡ at + length (decimal i))
      one low =
          let digits = decimal-one i low in
          let s = sign-one (48 + i) x rest (rw digits at e) h in
          (s.0 ∙ signs-digit g i low, s.1 ∙ ap (λ l. at + length l) (sym digits))

      two : 10 ≤ i → (r.sign ≡ sign symbols i) × (r.at ≡ at + length (decimal i))
      two high =
          let few : i < 74 = omega (arith, g.few) in
          let digits = pair-digits i high few in
          let s = sign-two (48 + i / 10) (48 + i % 10) (x ∷ rest) (rw digits at e) (two-digits (48 + i / 10) (48 + i % 10) (omega arith) (omega arith) (omega arith) (omega arith)) in
          let index : (48 + i / 10 - 48) * 10 + (48 + i % 10 - 48) ≡ i = omega arith in
          (s.0 ∙ ap (λ k. get_or signs (128 + k) 0) index ∙ signs-index g i few, s.1 ∙ ap (λ l. at + length l) (sym digits))
