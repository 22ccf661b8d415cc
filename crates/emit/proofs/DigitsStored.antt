-- How many digits a number has; and its digits, stored from the last one on into a buffer where they all have room. Assumes nothing.
use Prim.Native.Nat.{ℕ, zero, suc, ◌+◌, ◌*◌, ◌-◌, ◌/◌, ◌%◌, ◌^◌, ◌≤◌, ◌<◌}
use Rattle.emit.proofs.DecimalMade.{decimal-last, decimal-one, from_next, from-small}
use Rattle.emit.proofs.PutLaws.{puts-run, puts_whole, set-sets}
use Rattle.emit.specs.Puts.{Puts}
use Rattle.lexer.proofs.Basics.{by-test}
use Rattle.record.specs.Decimal.{digit, decimal_from, decimal}
use borrow.Author.Tests.{ltb-false, ltb-true}
use lib.Dec.{ltb}
use lib.ListN.{length, take, drop, set, length-append}
use lib.Seq.{length-sets, sets, take-append_seam}
use mathlib.Core.List.{List, [], ◌∷◌, ◌++◌, append-nil}
use mathlib.Core.Path.{◌≡◌, refl, sym, ap, ◌∙◌}
use native.Mathlib.Nat.{one-le-pow, pow-suc}
use native.Mathlib.Omega.{arith}

-- A number of one digit; and one of more has one digit more than its tenth.
pub digits-one : (n : ℕ) → n < 10 → length (decimal n) ≡ 1
digits-one n h = ap length (decimal-one n h)

pub one-digit : (n : ℕ) (behind : List ℕ) → n < 10 → digit n ∷ behind ≡ decimal n ++ behind
unfolding decimal
one-digit n behind h = rw (from-small n n [] h)

digits-next : (n : ℕ) → 10 ≤ n → length (decimal n) ≡ length (decimal (n / 10)) + 1
digits-next n h = ap length (decimal-last n h) ∙ length-append (decimal (n / 10)) (digit n ∷ [])

-- A number below a power of ten, and one between two.
tenth-below : (k n : ℕ) → n < 10 ^ (suc k + 1) → n / 10 < 10 ^ (k + 1)
tenth-below k n high =
    let next : suc k + 1 ≡ suc (k + 1) = omega arith in
    let less : n < 10 ^ (k + 1) * 10 = rw (next, pow-suc 10 (k + 1)) at high in
    omega arith

pub digits-most : (k n : ℕ) → n < 10 ^ (k + 1) → length (decimal n) ≤ k + 1
digits-most zero n high = omega (arith, digits-one n (omega arith))
digits-most (suc k) n high =
    by-test (ltb n 10)
    (λ t. omega (arith, digits-one n (ltb-true n 10 t)))
    (λ f. omega (arith, digits-next n (ltb-false n 10 f), digits-most k (n / 10) (tenth-below k n high)))

pub digits_between : (k n : ℕ) → 10 ^ k ≤ n → n < 10 ^ (k + 1) → length (decimal n) ≡ k + 1
digits_between zero n low high = digits-one n (omega arith)
digits_between (suc k) n low high =
    let more : 10 ^ k * 10 ≤ n = rw (pow-suc 10 k) at low in
    let some = one-le-pow k 10 (omega arith) in
    omega (arith, digits-next n (omega arith), digits_between k (n / 10) (omega arith) (tenth-below k n high))

-- Each number has a digit.
digits-some : (n : ℕ) → 1 ≤ length (decimal n)
digits-some n = by-test (ltb n 10) (λ t. omega (arith, digits-one n (ltb-true n 10 t))) (λ f. omega (arith, digits-next n (ltb-false n 10 f)))

-- The last two digits of a number are those of its rest by a hundred.
pub pair-last : (n : ℕ) → digit (n % 100) ≡ digit n
unfolding digit
pair-last n = omega arith

pub pair-first : (n : ℕ) → digit (n % 100 / 10) ≡ digit (n / 10)
unfolding digit
pair-first n = omega arith

-- Digits are stored from a place on; those of the rest of the number, which are to stand in front of them, begin at the place where the number begins.
pub record Storing (before : List ℕ) (n value : ℕ) (buffer : List ℕ) (rest at : ℕ) : Type 0 where
  pub digits : List ℕ
  pub made : decimal_from rest rest digits ≡ decimal value
  pub begins : n + length (decimal rest) ≡ at
  pub room : at ≤ length before
  pub held : buffer ≡ sets before at digits

pub storing-start : (before : List ℕ) (n value : ℕ) → n + 20 ≤ length before → value < 2 ^ 64 → Storing before n value before value (n + length (decimal value))
unfolding decimal
storing-start before n value room fits =
    record {
      digits = [];
      made = refl;
      begins = refl;
      room = omega (arith, digits-most 19 value (omega arith));
      held = refl;
    }

module _ (before : List ℕ) (n value : ℕ) (buffer : List ℕ) (rest at : ℕ) (s : Storing before n value buffer rest at) where
  pub storing-size : length buffer ≡ length before
  storing-size = ap length s.held ∙ length-sets before at s.digits

  storing-room : 10 ≤ rest → n + 2 ≤ at
  storing-room h = omega (arith, s.begins, digits-next rest h, digits-some (rest / 10))

  pub storing-fits : 10 ≤ rest → (2 ≤ at) × (at ≤ length buffer)
  storing-fits h = (omega (arith, storing-room h), omega (arith, storing-size, s.room))

  stored : 1 ≤ at → set buffer (at - 1) (digit rest) ≡ sets before (at - 1) (digit rest ∷ s.digits)
  stored h =
      let back : suc (at - 1) ≡ at = omega arith in
      rw (s.held, back) (set-sets before (at - 1) at (digit rest) s.digits (omega arith))

  storing-turn : 10 ≤ rest → Storing before n value (set buffer (at - 1) (digit rest)) (rest / 10) (at - 1)
  storing-turn h =
      let more = storing-room h in
      record {
        digits = digit rest ∷ s.digits;
        made = sym (from_next rest s.digits h) ∙ s.made;
        begins = omega (arith, s.begins, digits-next rest h);
        room = omega (arith, s.room);
        held = stored (omega arith);
      }

  pub storing-end : rest < 10 → set buffer n (digit rest) ≡ sets before n (decimal value)
  storing-end h =
      let last : at - 1 ≡ n = omega (arith, s.begins, digits-one rest h) in
      let all : digit rest ∷ s.digits ≡ decimal value = sym (from-small rest rest s.digits h) ∙ s.made in
      rw last at (stored (omega (arith, s.begins, digits-one rest h)) ∙ ap (sets before (at - 1)) all)

-- Two digits at once.
module _ (before : List ℕ) (n value : ℕ) (buffer : List ℕ) (rest at : ℕ) (s : Storing before n value buffer rest at) where
  pub storing-pair : 100 ≤ rest → Storing before n value (set (set buffer (at - 1) (digit rest)) (at - 2) (digit (rest / 10))) (rest / 100) (at - 2)
  storing-pair h =
      let place : at - 1 - 1 ≡ at - 2 = omega arith in
      let tenths : rest / 10 / 10 ≡ rest / 100 = omega arith in
      let first = storing-turn before n value buffer rest at s (omega arith) in
      rw (place, tenths) at (storing-turn before n value (set buffer (at - 1) (digit rest)) (rest / 10) (at - 1) first (omega arith))

  pub storing-last : 10 ≤ rest → rest < 100 → set (set buffer (at - 1) (digit rest)) (at - 2) (digit (rest / 10)) ≡ sets before n (decimal value)
  storing-last h l =
      let place : n ≡ at - 2 = omega (arith, s.begins, digits-next rest h, digits-one (rest / 10) (omega arith)) in
      let first = storing-turn before n value buffer rest at s h in
      ap (λ i. set (set buffer (at - 1) (digit rest)) i (digit (rest / 10))) (sym place)
      ∙ storing-end before n value (set buffer (at - 1) (digit rest)) (rest / 10) (at - 1) first (omega arith)

-- The digits of a number are put once they are stored, and are twenty at most.
pub digits-put : (before : List ℕ) (n value : ℕ) (after : List ℕ) (count : ℕ) → value < 2 ^ 64 → after ≡ sets before n (decimal value) → count ≡ length (decimal value)
    → record { puts : Puts before n (λ behind. decimal value ++ behind) after (n + count); upper_bound : n + count ≤ n + 20 }
digits-put before n value after count fits e k = record { puts = rw (e, k) (puts-run before n (decimal value)); upper_bound = omega (arith, digits-most 19 value (omega arith)) }

-- Digits that were put into a scratch of twenty bytes stand at its front.
pub digits-front : (scratch after : List ℕ) (value end : ℕ) → value < 2 ^ 64 → length scratch ≡ 20 → Puts scratch 0 (λ behind. decimal value ++ behind) after end
    → take end after ≡ decimal value
digits-front scratch after value end fits size p =
    let all : decimal value ++ [] ≡ decimal value = append-nil (decimal value) in
    let few : length (decimal value ++ []) ≤ length scratch = rw all (omega (arith, digits-most 19 value (omega arith))) in
    let whole = puts_whole scratch after (λ behind. decimal value ++ behind) end p few (omega arith) in
    let front = whole.0 in
    let count = whole.1 in
    rw (front, count, all) (take-append_seam (decimal value) (drop (length (decimal value)) scratch))
