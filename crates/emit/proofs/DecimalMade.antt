-- The digits of a number: made from the last one on, and with the last one behind the others. Assumes nothing.
use Prim.Native.Nat.{ℕ, zero, suc, ◌+◌, ◌*◌, ◌/◌, ◌%◌, ◌≤◌, ◌<◌}
use Rattle.lexer.proofs.Basics.{by-test}
use Rattle.lexer.specs.Base.{pick}
use Rattle.record.specs.Decimal.{digit, decimal_from, decimal}
use borrow.Author.Tests.{le-ltb, lt-ltb, ltb-false, ltb-true}
use lib.Dec.{ltb}
use lib.Seq.{append_snoc}
use mathlib.Core.List.{List, [], ◌∷◌, ◌++◌}
use mathlib.Core.Path.{◌≡◌, refl, sym, ap, subst, ◌∙◌}
use native.Mathlib.Omega.{arith}

-- A number of one digit; and one of more, whose last digit stands behind the others.
pub from-small : (k n : ℕ) (behind : List ℕ) → n < 10 → decimal_from k n behind ≡ digit n ∷ behind
unfolding decimal_from pick
from-small zero n behind h = refl
from-small (suc k) n behind h = rw (lt-ltb n 10 h)

from-large : (k n : ℕ) (behind : List ℕ) → 10 ≤ n → decimal_from (suc k) n behind ≡ decimal_from k (n / 10) (digit n ∷ behind)
unfolding decimal_from pick
from-large k n behind h = rw (le-ltb n 10 h)

-- Any bound that is not below the number gives the same digits.
from-bound : (k m n : ℕ) (behind : List ℕ) → n ≤ k → n ≤ m → decimal_from k n behind ≡ decimal_from m n behind
from-bound zero m n behind h l = from-small zero n behind (omega arith) ∙ sym (from-small m n behind (omega arith))
from-bound (suc k) zero n behind h l = from-small (suc k) n behind (omega arith) ∙ sym (from-small zero n behind (omega arith))
from-bound (suc k) (suc m) n behind h l =
    by-test (ltb n 10)
    (λ t. let s = ltb-true n 10 t in from-small (suc k) n behind s ∙ sym (from-small (suc m) n behind s))
    (λ f. let g = ltb-false n 10 f in from-large k n behind g ∙ from-bound k m (n / 10) (digit n ∷ behind) (omega arith) (omega arith) ∙ sym (from-large m n behind g))

pub from_next : (n : ℕ) (behind : List ℕ) → 10 ≤ n → decimal_from n n behind ≡ decimal_from (n / 10) (n / 10) (digit n ∷ behind)
from_next zero behind h = absurd (omega arith)
from_next (suc k) behind h = from-large k (suc k) behind h ∙ from-bound k (suc k / 10) (suc k / 10) (digit (suc k) ∷ behind) (omega arith) (omega arith)

-- The digits of a number in front of others are its digits, and the others behind them.
from_front : (k n : ℕ) (behind : List ℕ) → decimal_from k n behind ≡ decimal_from k n [] ++ behind
unfolding decimal_from pick
from_front zero n behind = refl
from_front (suc k) n behind =
    by-test (ltb n 10)
    (λ t. rw t refl)
    (λ f.
    rw f
    (from_front k (n / 10) (digit n ∷ behind)
    ∙ sym (append_snoc (decimal_from k (n / 10) []) (digit n) behind)
    ∙ ap (λ l. l ++ behind) (sym (from_front k (n / 10) (digit n ∷ [])))))

-- A number of one digit; and one of more, by its tenth and its last digit.
pub decimal-one : (n : ℕ) → n < 10 → decimal n ≡ (48 + n) ∷ []
unfolding decimal digit
decimal-one n h = let e : n % 10 ≡ n = omega arith in from-small n n [] h ∙ rw e

pub decimal-last : (n : ℕ) → 10 ≤ n → decimal n ≡ decimal (n / 10) ++ (digit n ∷ [])
unfolding decimal
decimal-last n h = from_next n [] h ∙ from_front (n / 10) (n / 10) (digit n ∷ [])

-- A number with a digit more is spelled with that digit behind it.
pub decimal-snoc : (n d : ℕ) → 1 ≤ n → d < 10 → decimal (n * 10 + d) ≡ decimal n ++ ((48 + d) ∷ [])
unfolding digit
decimal-snoc n d some small =
    let e : (n * 10 + d) / 10 ≡ n = omega arith in
    let f : (n * 10 + d) % 10 ≡ d = omega arith in
    decimal-last (n * 10 + d) (omega arith) ∙ rw (e, f)

-- What holds of each number of one digit, and goes on from a number to one with a digit more, holds of all numbers.
module _ (P : ℕ → Type 0) (one : (n : ℕ) → n < 10 → P n) (more : (n d : ℕ) → 1 ≤ n → d < 10 → P n → P (n * 10 + d)) where
  by-digits-below : (most n : ℕ) → n ≤ most → P n
  by-digits-below zero n h = one n (omega arith)
  by-digits-below (suc most) n h =
      by-test (ltb n 10) (λ t. one n (ltb-true n 10 t))
      (λ f.
      let g : 10 ≤ n = ltb-false n 10 f in
      let e : n / 10 * 10 + n % 10 ≡ n = omega arith in
      subst P e (more (n / 10) (n % 10) (omega arith) (omega arith) (by-digits-below most (n / 10) (omega arith))))

  pub by_digits : (n : ℕ) → P n
  by_digits n = by-digits-below n n (omega arith)
