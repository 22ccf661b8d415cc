-- Decimal numbers: what a decimal is read as, and that it is the one spelling of its number. Assumes nothing.
use Prim.Native.Nat.{ℕ, zero, suc, ◌+◌, ◌*◌, ◌-◌, ◌/◌, ◌%◌, ◌≤◌, ◌<◌}
use Rattle.lexer.proofs.Basics.{and_both, and_left, picked, picked_value, same_refl, same_true}
use Rattle.lexer.specs.Base.{pick, is_empty}
use Rattle.lexer.specs.Words.{digits, largest, unsigned, positive}
use Rattle.record.specs.Decimal.{digit, decimal_from, decimal, undecimal}
use borrow.Author.Tests.{le-leb, leb-true, ltb-true, ltb-false, ne_eqb}
use lib.Dec.{leb, ltb, eqb}
use mathlib.Core.Bool.{Bool, true, false, ◌&&◌}
use mathlib.Core.List.{List, [], ◌∷◌}
use mathlib.Core.Option.{some}
use mathlib.Core.Path.{◌≡◌, refl}
use native.Mathlib.Omega.{arith}

-- Is the byte a is_digit Are is_all
unfoldable pub is_digit : ℕ → Bool
is_digit b = leb 48 b && leb b 57

unfoldable pub all_digits : List ℕ → Bool
all_digits [] = true
all_digits (b ∷ r) = let more = all_digits r in is_digit b && more

digit-digit : (n : ℕ) → is_digit (digit n) ≡ true
unfolding is_digit digit
digit-digit n = and_both (le-leb 48 (48 + n % 10) (omega arith)) (le-leb (48 + n % 10) 57 (omega arith))

-- A digit of a number, behind a number so far.
digits_step : (m n : ℕ) (behind : List ℕ) → digits m (digit n ∷ behind) ≡ digits (m * 10 + n % 10) behind
unfolding digits is_digit pick digit
digits_step m n behind =
    let e : 48 + n % 10 - 48 ≡ n % 10 = omega arith in
    rw (digit-digit n, e)

digits_from : (k n : ℕ) (behind : List ℕ) → n ≤ k → digits 0 (decimal_from k n behind) ≡ digits n behind
unfolding decimal_from pick
digits_from zero n behind h =
    let e : 0 * 10 + n % 10 ≡ n = omega arith in
    rw (digits_step, e)
digits_from (suc k) n behind h = go (ltb n 10) refl (digits_from k (n / 10) (digit n ∷ behind))
  where
    go : (b : Bool) → ltb n 10 ≡ b
        → (n / 10 ≤ k → digits 0 (decimal_from k (n / 10) (digit n ∷ behind)) ≡ digits (n / 10) (digit n ∷ behind))
        → digits 0 (pick b (digit n ∷ behind) (decimal_from k (n / 10) (digit n ∷ behind))) ≡ digits n behind
    go true t ih =
        let l : n < 10 = ltb-true n 10 t in
        let e : 0 * 10 + n % 10 ≡ n = omega arith in
        rw (digits_step, e)
    go false f ih =
        let l : 10 ≤ n = ltb-false n 10 f in
        let e : n / 10 * 10 + n % 10 ≡ n = omega arith in
        rw (ih (omega arith), digits_step, e)

pub digits_decimal : (n : ℕ) → digits 0 (decimal n) ≡ n
unfolding decimal digits
digits_decimal n = digits_from n n [] (omega arith)

pub undecimal-decimal : (n : ℕ) → undecimal (decimal n) ≡ some n
unfolding undecimal pick
undecimal-decimal n = rw (digits_decimal n, same_refl (decimal n))

pub decimal-undecimal : (t : List ℕ) (n : ℕ) → undecimal t ≡ some n → decimal n ≡ t
unfolding undecimal
decimal-undecimal t n h =
    let same : decimal (digits 0 t) ≡ t = same_true _ _ (picked _ _ _ h) in
    let value : digits 0 t ≡ n = picked_value _ _ _ h in
    cc

-- What holds of the last digit, and goes on to one digit more in front, holds of a decimal.
module _ (P : List ℕ → Type 0) (step : (n : ℕ) (r : List ℕ) → P r → P (digit n ∷ r)) where
  from-kept : (k n : ℕ) (behind : List ℕ) → P (digit n ∷ behind) → P (decimal_from k n behind)
  unfolding decimal_from pick
  from-kept zero n behind h = h
  from-kept (suc k) n behind h = go (ltb n 10) (from-kept k (n / 10) (digit n ∷ behind) (step (n / 10) (digit n ∷ behind) h))
    where
      go : (b : Bool) → P (decimal_from k (n / 10) (digit n ∷ behind))
          → P (pick b (digit n ∷ behind) (decimal_from k (n / 10) (digit n ∷ behind)))
      go true more = h
      go false more = more

-- The bytes of a decimal are digits, and there is one.
pub decimal-digits : (n : ℕ) → all_digits (decimal n) ≡ true
unfolding decimal all_digits
decimal-digits n = from-kept (λ t. all_digits t ≡ true) (λ m r h. and_both (digit-digit m) h) n n [] (rw digit-digit)

pub decimal-some : (n : ℕ) → is_empty (decimal n) ≡ false
unfolding decimal is_empty
decimal-some n = from-kept (λ t. is_empty t ≡ false) (λ m r h. refl) n n [] refl

-- Digits alone, without a sign, are read as what they spell.
unsigned-digits : (t : List ℕ) → all_digits t ≡ true → unsigned t ≡ digits 0 t
unfolding unsigned all_digits is_digit digits pick
unsigned-digits [] h = refl
unsigned-digits (b ∷ r) h =
    let d : leb 48 b && leb b 57 ≡ true = and_left _ (all_digits r) h in
    let l : 48 ≤ b = leb-true 48 b (and_left _ (leb b 57) d) in
    let plus : eqb b 43 ≡ false = ne_eqb b 43 (λ e. omega arith) in
    rw plus

pub positive-decimal : (n : ℕ) → 1 ≤ n → n ≤ largest → positive (decimal n) ≡ n
unfolding positive pick
positive-decimal n some-unit small = rw (unsigned-digits (decimal n) (decimal-digits n), digits_decimal n, le-leb n largest small)
