-- The value of the digits at a place, and the number that stands there: a decimal is read as its number. Assumes nothing.
use Rattle.std.specs.Prelude.{Some, None, Option}
use Rattle.std.proofs.lemmas.Option.{some_pair_parts}
use Prim.Native.Nat.{ℕ, zero, suc, ◌+◌, ◌*◌, ◌-◌, ◌/◌, ◌%◌, ◌≤◌, ◌<◌}
use Rattle.emit.proofs.DecimalMade.{decimal-last, decimal-one}
use Rattle.judging.proofs.JudgeLaws.{judges-none, wrong-no-end}
use Rattle.judging.proofs.KeyLaws.{word-whole}
use Rattle.naming.proofs.RowLaws.{drop-behind}
use Rattle.judging.specs.Judges.{Judges}
use Rattle.judging.specs.Numbers.{NumberJudged, NumberStands, leading}
use Rattle.lexer.proofs.Basics.{by-test}
use Rattle.lexer.proofs.ListLaws.{drop-next}
use Rattle.lexer.specs.Base.{pick}
use Rattle.record.specs.Decimal.{decimal, decimal_from, digit}
use borrow.Author.Tests.{le-leb, lt-leb, ltb-false, ltb-true}
use lib.Dec.{leb, ltb}
use lib.ListN.{length, drop, drop_of_length-le, get_or, length-append}
use lib.Seq.{append_snoc, get_or-drop}
use mathlib.Core.Bool.{Bool, true, false, ◌&&◌}
use mathlib.Core.List.{List, [], ◌∷◌, ◌++◌, append_assoc, append-nil}
use mathlib.Core.Path.{◌≡◌, refl, sym, ap, subst, ◌∙◌}
use native.Mathlib.Nat.{add-zero}
use native.Mathlib.Omega.{arith}

-- Digits in front of others are those of the number and the others.
from-append : (k n : ℕ) (a b : List ℕ) → decimal_from k n a ++ b ≡ decimal_from k n (a ++ b)
unfolding decimal_from pick
from-append zero n a b = refl
from-append (suc k) n a b = go (ltb n 10) (from-append k (n / 10) (digit n ∷ a) b)
  where
    go : (t : Bool) → decimal_from k (n / 10) (digit n ∷ a) ++ b ≡ decimal_from k (n / 10) (digit n ∷ (a ++ b))
        → pick t (digit n ∷ a) (decimal_from k (n / 10) (digit n ∷ a)) ++ b ≡ pick t (digit n ∷ (a ++ b)) (decimal_from k (n / 10) (digit n ∷ (a ++ b)))
    go true ih = refl
    go false ih = ih

-- A digit of a number behind a number so far that is not above the largest count.
leading_step : (m n : ℕ) (behind : List ℕ) → m ≤ 1048576 → leading m (digit n ∷ behind) ≡ leading (m * 10 + n % 10) behind
unfolding leading digit pick
leading_step m n behind h =
    let e : 48 + n % 10 - 48 ≡ n % 10 = omega arith in
    rw (le-leb 48 (48 + n % 10) (omega arith), le-leb (48 + n % 10) 57 (omega arith), le-leb m 1048576 h, e)

leading-from : (k n : ℕ) (behind : List ℕ) → n ≤ k → n ≤ 1048576 → leading 0 (decimal_from k n behind) ≡ leading n behind
unfolding decimal_from pick
leading-from zero n behind h s =
    let e : 0 * 10 + n % 10 ≡ n = omega arith in
    leading_step 0 n behind (omega arith) ∙ ap (λ m. leading m behind) e
leading-from (suc k) n behind h s = go (ltb n 10) refl (leading-from k (n / 10) (digit n ∷ behind))
  where
    go : (t : Bool) → ltb n 10 ≡ t
        → (n / 10 ≤ k → n / 10 ≤ 1048576 → leading 0 (decimal_from k (n / 10) (digit n ∷ behind)) ≡ leading (n / 10) (digit n ∷ behind))
        → leading 0 (pick t (digit n ∷ behind) (decimal_from k (n / 10) (digit n ∷ behind))) ≡ leading n behind
    go true t ih =
        let l : n < 10 = ltb-true n 10 t in
        let e : 0 * 10 + n % 10 ≡ n = omega arith in
        leading_step 0 n behind (omega arith) ∙ ap (λ m. leading m behind) e
    go false f ih =
        let l : 10 ≤ n = ltb-false n 10 f in
        let e : n / 10 * 10 + n % 10 ≡ n = omega arith in
        ih (omega arith) (omega arith) ∙ leading_step (n / 10) n behind (omega arith) ∙ ap (λ m. leading m behind) e

-- A number that is ended by LF is read as itself.
leading-ended : (n : ℕ) (rest : List ℕ) → leading n (10 ∷ rest) ≡ n
unfolding leading pick
leading-ended n rest = refl

pub leading-decimal : (v : ℕ) (rest : List ℕ) → v ≤ 1048576 → leading 0 (decimal v ++ (10 ∷ rest)) ≡ v
unfolding decimal
leading-decimal v rest h =
    ap (leading 0) (from-append v v [] (10 ∷ rest)) ∙ leading-from v v (10 ∷ rest) (omega arith) h ∙ leading-ended v rest

-- One digit more, or another byte.
module _ (n b : ℕ) (rest : List ℕ) where
  leading-digit : 48 ≤ b → b ≤ 57 → n ≤ 1048576 → leading n (b ∷ rest) ≡ leading (n * 10 + (b - 48)) rest
  unfolding leading pick
  leading-digit l h s = rw (le-leb 48 b l, le-leb b 57 h, le-leb n 1048576 s)

  leading_low : b < 48 → leading n (b ∷ rest) ≡ n
  unfolding leading pick
  leading_low h = rw (lt-leb 48 b h)

  leading-high : 57 < b → leading n (b ∷ rest) ≡ n
  unfolding leading pick
  leading-high h = rw (le-leb 48 b (omega arith), lt-leb b 57 h)

  leading-many : 1048576 < n → leading n (b ∷ rest) ≡ n
  unfolding leading pick
  leading-many h = go (leb 48 b) (leb b 57)
    where
      go : (x y : Bool) → pick (x && y && leb n 1048576) (leading (n * 10 + (b - 48)) rest) n ≡ n
      go true true = rw (lt-leb n 1048576 h)
      go true false = refl
      go false y = refl

-- The digits of a number in front of its last one: none, or those of its tenth.
digits-but-last : (n : ℕ) → (front : List ℕ) × (decimal n ≡ front ++ (digit n ∷ [])) × (0 < length front → front ≡ decimal (n / 10))
unfolding digit
digits-but-last n =
    by-test (ltb n 10)
    (λ t. let small = ltb-true n 10 t in let e : n % 10 ≡ n = omega arith in ([], rw e (decimal-one n small), λ h. absurd (omega arith)))
    (λ f. (decimal (n / 10), decimal-last n (ltb-false n 10 f), λ h. refl))

-- Digits were compared from the last one on: they stand at their place, and those that are left in front of them are those of the rest.
pub record DigitsLeft (b : List ℕ) (i value left rest : ℕ) : Type 0 where
  pub front : List ℕ
  pub behind : List ℕ
  pub made : decimal value ≡ front ++ behind
  pub size : length front ≡ left
  pub few : left ≤ length (decimal value)
  pub last : 0 < left → front ≡ decimal rest
  pub held : drop (i + left) b ≡ behind ++ drop (i + length (decimal value)) b

module _ (b : List ℕ) (i value : ℕ) where
  pub digits-start : (count : ℕ) → count ≡ length (decimal value) → DigitsLeft b i value count value
  digits-start count all =
      record {
        front = decimal value;
        behind = [];
        made = sym (append-nil (decimal value));
        size = sym all;
        few = omega (arith, all);
        last = λ h. refl;
        held = rw all refl;
      }

  module _ (left rest : ℕ) (w : DigitsLeft b i value left rest) (some : 0 < left) where
    -- The last digit that is left, those in front of it and those behind.
    abbrev fore : List ℕ
    fore = (digits-but-last rest).0

    cut : decimal value ≡ fore ++ (digit rest ∷ w.behind)
    cut = w.made ∙ ap (λ l. l ++ w.behind) (w.last some ∙ (digits-but-last rest).1) ∙ append_snoc fore (digit rest) w.behind

    shorter : length fore ≡ left - 1
    shorter = omega (arith, w.size, ap length (w.last some ∙ (digits-but-last rest).1), length-append fore (digit rest ∷ []))

    -- It stands there, or another byte does.
    pub digits-turn : i + (left - 1) < length b → get_or b (i + (left - 1)) 0 ≡ digit rest → DigitsLeft b i value (left - 1) (rest / 10)
    digits-turn within e =
        let next : i + (left - 1) + 1 ≡ i + left = omega arith in
        record {
          front = fore;
          behind = digit rest ∷ w.behind;
          made = cut;
          size = shorter;
          few = omega (arith, w.few);
          last = λ h. (digits-but-last rest).2 (omega (arith, shorter));
          held = drop-next b (i + (left - 1)) within ∙ rw (e, next) (ap (λ l. digit rest ∷ l) w.held);
        }

    pub digits-other : (get_or b (i + (left - 1)) 0 ≡ digit rest → ⊥) → Judges b i (λ (u : Unit {0}). Unit {0}) (λ u. decimal value) None
    digits-other ne = judges-none b i _ _ none
      where
        none : (u : Unit {0}) (t : List ℕ) → Unit {0} → drop i b ≡ decimal value ++ t → ⊥
        none u t g e =
            let there : drop (i + length fore) b ≡ digit rest ∷ (w.behind ++ t) =
            drop-behind b i fore _ (e ∙ ap (λ l. l ++ t) cut ∙ append_assoc fore (digit rest ∷ w.behind) t) in
            ne (ap (λ n. get_or b (i + n) 0) (sym shorter) ∙ ap (λ n. get_or b n 0) (sym (add-zero (i + length fore))) ∙ sym (get_or-drop (i + length fore) b 0 0) ∙ ap (λ l. get_or l 0 0) there)

  -- None is left.
  pub digits-end : (rest : ℕ) (left count : ℕ) → DigitsLeft b i value left rest → left ≤ 0 → count ≡ length (decimal value)
      → Judges b i (λ (u : Unit {0}). Unit {0}) (λ u. decimal value) (Some (i + count))
  digits-end rest left count w over all =
      let none : left ≡ 0 = omega arith in
      rw all (word-whole b i (decimal value) (digits-whole w.front (w.size ∙ none) w.made (rw none at w.held)))
    where
      digits-whole : (front : List ℕ) → length front ≡ 0 → decimal value ≡ front ++ w.behind → drop (i + 0) b ≡ w.behind ++ drop (i + length (decimal value)) b
          → drop i b ≡ decimal value ++ drop (i + length (decimal value)) b
      digits-whole [] size made held = ap (λ n. drop n b) (sym (add-zero i)) ∙ held ∙ ap (λ l. l ++ drop (i + length (decimal value)) b) (sym made)
      digits-whole (x ∷ l) size made held = absurd (omega arith)

-- The walk over the digits at a place: the value so far and those behind it are that of all.
pub record Valuing (b : List ℕ) (i value at : ℕ) : Type 0 where
  pub small : value ≤ 10485769
  pub rest : leading value (drop at b) ≡ leading 0 (drop i b)

module _ (b : List ℕ) (i : ℕ) where
  pub valuing-start : Valuing b i 0 i
  valuing-start = record { small = omega arith; rest = refl }

  module _ (value at : ℕ) (w : Valuing b i value at) where
    pub valuing-end : length b ≤ at → value ≡ leading 0 (drop i b)
    unfolding leading
    valuing-end h = rw (drop_of_length-le b h) at w.rest

    module _ (h : at < length b) where
      stops : leading value (get_or b at 0 ∷ drop (at + 1) b) ≡ value → value ≡ leading 0 (drop i b)
      stops e = sym e ∙ ap (leading value) (sym (drop-next b at h)) ∙ w.rest

      pub valuing-low : get_or b at 0 < 48 → value ≡ leading 0 (drop i b)
      valuing-low l = stops (leading_low value _ _ l)

      pub valuing-high : 57 < get_or b at 0 → value ≡ leading 0 (drop i b)
      valuing-high l = stops (leading-high value _ _ l)

      pub valuing-many : 1048576 < value → value ≡ leading 0 (drop i b)
      valuing-many l = stops (leading-many value _ _ l)

      pub valuing-turn : 48 ≤ get_or b at 0 → get_or b at 0 ≤ 57 → value ≤ 1048576 → Valuing b i (value * 10 + (get_or b at 0 - 48)) (at + 1)
      valuing-turn l k s = record { small = omega arith; rest = sym (leading-digit value _ (drop (at + 1) b) l k s) ∙ ap (leading value) (sym (drop-next b at h)) ∙ w.rest }

-- What the code answers: the value is too large, its digits do not stand there, no LF is behind them, or all is there.
module _ (b : List ℕ) (i value : ℕ) (read : value ≡ leading 0 (drop i b)) where
  same-value : (v : ℕ) (rest : List ℕ) → v ≤ 1048576 → drop i b ≡ decimal v ++ (10 ∷ rest) → value ≡ v
  same-value v rest h e = read ∙ ap (leading 0) e ∙ leading-decimal v rest h

  no_number : (j k : ℕ) → ◌≡◌ {A = Option (ℕ × ℕ)} None (Some (j, k)) → ⊥
  no_number j k e = let z : ◌≡◌ {A = ℕ} 0 1 = cc in omega arith

  number-none : ((rest : List ℕ) → value ≤ 1048576 → drop i b ≡ decimal value ++ (10 ∷ rest) → ⊥) → NumberJudged b i None
  number-none none =
      record {
        found = λ v j e. absurd (no_number v j e);
        all = λ v rest h e.
            let same = same-value v rest h e in
            absurd (none rest (subst (λ n. n ≤ 1048576) (sym same) h) (subst (λ n. drop i b ≡ decimal n ++ (10 ∷ rest)) (sym same) e));
      }

  pub number-large : 1048576 < value → NumberJudged b i None
  number-large h = number-none (λ rest l e. omega arith)

  module _ (few : value ≤ 1048576) (r : Option ℕ) (digits : Judges b i (λ (u : Unit {0}). Unit {0}) (λ u. decimal value) r) where
    pub number-no-digits : r ≡ None → NumberJudged b i None
    number-no-digits w = number-none (λ rest l e. wrong-no-end _ (sym w ∙ digits.all tt (10 ∷ rest) tt e))

    module _ (j : ℕ) (here : r ≡ Some j) (s : Option ℕ) (ended : Judges b j (λ (u : Unit {0}). Unit {0}) (λ u. 10 ∷ []) s) where
      behind-digits : (rest : List ℕ) → drop i b ≡ decimal value ++ (10 ∷ rest) → drop j b ≡ 10 ∷ rest
      behind-digits rest e = ap (λ n. drop n b) (digits.found j here).end ∙ drop-behind b i (decimal value) (10 ∷ rest) e

      pub number-no-end : s ≡ None → NumberJudged b i None
      number-no-end w = number-none (λ rest l e. wrong-no-end _ (sym w ∙ ended.all tt rest tt (behind-digits rest e)))

      pub number-whole : (k : ℕ) → s ≡ Some k → NumberJudged b i (Some (value, k))
      number-whole k e =
          let first = digits.found j here in
          let last = ended.found k e in
          let end : k ≡ i + length (decimal value) + 1 = omega (arith, first.end, last.end) in
          let stands : NumberStands b i value k = record { few = few; here = first.here ∙ ap (λ l. decimal value ++ l) last.here; end = end } in
          record {
            found = λ v m q.
                let p = some_pair_parts _ _ _ _ q in
                subst (λ x. NumberStands b i v x) p.1 (subst (λ x. NumberStands b i x k) p.0 stands);
            all = λ v rest h f. let same = same-value v rest h f in ap (λ m. Some (value, m)) end ∙ ap (λ x. Some (x, (i + length (decimal x) + 1))) same;
          }
