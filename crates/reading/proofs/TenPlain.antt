-- Ten characters that are put at once: the tests for them, their lines, and how many bytes they have. Assumes nothing.
use Prim.Native.Nat.{ℕ, zero, suc, ◌+◌, ◌*◌, ◌-◌, ◌/◌, ◌%◌, ◌^◌, ◌≤◌, ◌<◌}
use Rattle.block.specs.declared.model.CharacterOrdering.{CharacterOrdering}
use Rattle.emit.proofs.DecimalMade.{decimal-snoc}
use Rattle.emit.proofs.DigitsStored.{digits-most}
use Rattle.emit.proofs.PutLaws.{puts-sets}
use Rattle.emit.specs.Puts.{Puts, last_place, puts}
use Rattle.lexer.proofs.Basics.{all-four, and_assoc, and_left, and_right, and-true}
use Rattle.lexer.specs.Base.{bytes}
use Rattle.reading.proofs.CharacterPuts.{bare-ordered, bare-unordered, plain-long, plain-spelled}
use Rattle.reading.specs.CharactersHeld.{bare_piece, plain_character}
use Rattle.reading.specs.TenPlain.{all_same, ten_plain}
use Rattle.record.specs.Decimal.{decimal}
use Rattle.record.specs.Spell.{spell_character, spell_characters}
use borrow.Author.Tests.{eq-eqb, eqb-true, le-leb, leb-true, lt-leb, ne_eqb}
use lib.Dec.{eqb, leb}
use lib.ListN.{drop, get_or, length, replicate, take, length-append}
use lib.Seq.{append_snoc, sets-eq, take_at}
use mathlib.Core.Bool.{Bool, true, false, ◌&&◌, ◌||◌, not}
use mathlib.Core.List.{List, [], ◌∷◌, ◌++◌, append_assoc, append-nil}
use mathlib.Core.Path.{◌≡◌, refl, sym, ap, ◌∙◌}
use native.Mathlib.Nat.{suc-mul}
use native.Mathlib.Omega.{arith}

-- Whether the rest of ten numbers are this one, behind those that were looked at.
module _ (work : List ℕ) (number at : ℕ) where
  pub same_turn : (all : Bool) (i : ℕ) → i < 10
      → all && eqb (get_or work (at + i) 0) number && all_same work number (at + (i + 1)) (10 - (i + 1)) ≡ all && all_same work number (at + i) (10 - i)
  unfolding all_same
  same_turn all i h =
      let left : 10 - i ≡ suc (10 - (i + 1)) = omega arith in
      let next : suc (at + i) ≡ at + (i + 1) = omega arith in
      rw (left, next) (sym (and_assoc all (eqb (get_or work (at + i) 0) number) (all_same work number (at + (i + 1)) (10 - (i + 1)))))

  pub same_end : (all : Bool) (i : ℕ) → 10 ≤ i → all ≡ all && all_same work number (at + i) (10 - i)
  unfolding all_same
  same_end all i h = let none : 10 - i ≡ 0 = omega arith in rw none (sym (and-true all))

-- The test of ten characters, one test behind another.
module _ (work : List ℕ) (at characters : ℕ) (typed : Bool) (k : ℕ) where
  pub ten-odd : ((k + 1) % 10 ≡ 0 → ⊥) → false ≡ ten_plain work at characters typed k
  unfolding ten_plain
  ten-odd h = rw (ne_eqb ((k + 1) % 10) 0 h) refl

  module _ (round : (k + 1) % 10 ≡ 0) where
    pub ten-short : characters < k + 10 → false ≡ ten_plain work at characters typed k
    unfolding ten_plain
    ten-short h = rw (eq-eqb ((k + 1) % 10) 0 round, lt-leb (k + 10) characters h) refl

    module _ (within : k + 10 ≤ characters) {labels states : Bool} (l : labels ≡ all_same work 0 (at + k) 10) (s : states ≡ all_same work 0 (at + characters + k) 10) where
      pub ten-untyped : typed ≡ false → labels && states ≡ ten_plain work at characters typed k
      unfolding ten_plain
      ten-untyped e = rw (eq-eqb ((k + 1) % 10) 0 round, le-leb (k + 10) characters within, e, l, s) (sym (and-true (all_same work 0 (at + k) 10 && all_same work 0 (at + characters + k) 10)))

      pub ten-typed : typed ≡ true → {types : Bool} → types ≡ all_same work (get_or work (at + 2 * characters + k) 0) (at + 2 * characters + k) 10
          → labels && states && types ≡ ten_plain work at characters typed k
      unfolding ten_plain
      ten-typed e t = rw (eq-eqb ((k + 1) % 10) 0 round, le-leb (k + 10) characters within, e, l, s, t) refl

-- What the test of ten characters says.
pub record TenTold (work : List ℕ) (at characters : ℕ) (typed : Bool) (k : ℕ) : Type 0 where
  pub round : (k + 1) % 10 ≡ 0
  pub within : k + 10 ≤ characters
  pub labels : all_same work 0 (at + k) 10 ≡ true
  pub states : all_same work 0 (at + characters + k) 10 ≡ true
  pub types : not typed || all_same work (get_or work (at + 2 * characters + k) 0) (at + 2 * characters + k) 10 ≡ true

pub ten-told : (work : List ℕ) (at characters : ℕ) (typed : Bool) (k : ℕ) (test other : Bool) → test ≡ ten_plain work at characters typed k → test && other ≡ true
    → TenTold work at characters typed k
unfolding ten_plain
ten-told work at characters typed k test other e t =
    let round = eqb ((k + 1) % 10) 0 in
    let within = leb (k + 10) characters in
    let labels = all_same work 0 (at + k) 10 in
    let states = all_same work 0 (at + characters + k) 10 in
    let types = not typed || all_same work (get_or work (at + 2 * characters + k) 0) (at + 2 * characters + k) 10 in
    let all : round && within && labels && states && types ≡ true = sym e ∙ and_left test other t in
    let four = all-four round within labels states (and_left (round && within && labels && states) types all) in
    record {
      round = eqb-true ((k + 1) % 10) 0 four.0;
      within = leb-true (k + 10) characters four.1;
      labels = four.2;
      states = four.3;
      types = and_right (round && within && labels && states) types all;
    }

-- What stands in front of the last digit, made in a scratch.
pub front-made : (scratch after : List ℕ) (tens last : ℕ) → tens < 2 ^ 64 → length scratch ≡ 32 → take 10 scratch ≡ bytes "character="
    → Puts scratch 10 (λ behind. decimal tens ++ behind) after last
    → (take last after ≡ bytes "character=" ++ decimal tens) × (last ≡ 10 + length (decimal tens))
unfolding puts last_place bytes
front-made scratch after tens last fits size first p =
    let few = digits-most 19 tens (omega arith) in
    let end : last ≡ 10 + length (decimal tens) = omega (arith, p.reached [], length-append (decimal tens) []) in
    let rest = drop (10 + length (decimal tens)) scratch in
    let whole : after ≡ (bytes "character=" ++ decimal tens) ++ rest =
    sym (p.written [])
    ∙ ap (puts scratch 10) (append-nil (decimal tens))
    ∙ puts-sets scratch 10 (decimal tens)
    ∙ sets-eq (decimal tens) scratch 10 (omega arith)
    ∙ ap (λ l. l ++ decimal tens ++ rest) first in
    (rw whole (take_at (bytes "character=" ++ decimal tens) rest last (omega arith)), end)

-- What is put over the rest of the scratch is as long.
pub bare-least : (o : CharacterOrdering) (behind : List ℕ) → 27 ≤ length (bare_piece o behind)
unfolding bytes
bare-least CharacterOrdering.Ordered behind = omega (arith, ap length (bare-ordered CharacterOrdering.Ordered behind refl))
bare-least CharacterOrdering.Unordered behind = omega (arith, ap length (bare-unordered CharacterOrdering.Unordered behind refl))

-- The characters of ten from the one with this last digit on.
abbrev pub from_digit : ℕ → CharacterOrdering → ℕ → List ℕ → List ℕ
from_digit number o digit = spell_characters (number + (digit - 48)) (replicate (58 - digit) (plain_character o))

-- None of them.
module _ (number : ℕ) (o : CharacterOrdering) where
  pub ten-end : (digit : ℕ) → 58 ≤ digit → (behind : List ℕ) → from_digit number o digit behind ≡ behind
  unfolding spell_characters
  ten-end digit h behind = let none : 58 - digit ≡ 0 = omega arith in rw none refl

-- Ten numbers, the first of which ends with 0.
module _ (number : ℕ) (some : 1 ≤ number) (round : number % 10 ≡ 0) where
  ten-digits : (i : ℕ) → i < 10 → decimal (number + i) ≡ decimal (number / 10) ++ ((48 + i) ∷ [])
  ten-digits i small = let tens : number / 10 * 10 + i ≡ number + i = omega arith in rw tens at (decimal-snoc (number / 10) i (omega arith) small)

  ten-long : (i : ℕ) → i < 10 → length (decimal (number + i)) ≡ length (decimal (number / 10)) + 1
  ten-long i small = ap length (ten-digits i small) ∙ length-append (decimal (number / 10)) ((48 + i) ∷ [])

  module _ (o : CharacterOrdering) where
    abbrev from : ℕ → List ℕ → List ℕ
    from = from_digit number o

    -- The first of them.
    pub ten-next : (digit : ℕ) → 48 ≤ digit → digit < 58 → (behind : List ℕ)
        → from digit behind ≡ (bytes "character=" ++ decimal (number / 10)) ++ (digit ∷ bare_piece o (from (digit + 1) behind))
    unfolding spell_characters
    ten-next digit h small behind =
        let this = number + (digit - 48) in
        let left : 58 - digit ≡ suc (58 - (digit + 1)) = omega arith in
        let next : suc this ≡ number + (digit + 1 - 48) = omega arith in
        let last : 48 + (digit - 48) ≡ digit = omega arith in
        let digits : decimal this ≡ decimal (number / 10) ++ (digit ∷ []) = rw last at (ten-digits (digit - 48) (omega arith)) in
        let rest = bare_piece o (from (digit + 1) behind) in
        rw (left, next)
        (sym (plain-spelled this o (from (digit + 1) behind))
        ∙ ap (λ l. bytes "character=" ++ (l ++ rest)) digits
        ∙ ap (λ l. bytes "character=" ++ l) (append_snoc (decimal (number / 10)) digit rest)
        ∙ sym (append_assoc (bytes "character=") (decimal (number / 10)) (digit ∷ rest)))

    -- How many bytes they have.
    abbrev size : ℕ
    size = length (spell_character number (plain_character o) [])

    some_size : (count i : ℕ) → i + count ≤ 10 → (behind : List ℕ)
        → length (spell_characters (number + i) (replicate count (plain_character o)) behind) ≡ count * size + length behind
    unfolding spell_characters
    some_size zero i h behind = omega arith
    some_size (suc count) i h behind =
        let here : number + 0 ≡ number = omega arith in
        let alike : length (decimal (number + i)) ≡ length (decimal number) = ten-long i (omega arith) ∙ sym (rw here at (ten-long 0 (omega arith))) in
        let next : suc (number + i) ≡ number + suc i = omega arith in
        let rest = spell_characters (number + suc i) (replicate count (plain_character o)) behind in
        rw next (omega (arith, plain-long (number + i) number o rest alike, some_size count (suc i) (omega arith) behind, suc-mul count size))

    pub ten-size : (behind : List ℕ) → length (spell_characters number (replicate 10 (plain_character o)) behind) ≡ 10 * size + length behind
    ten-size behind = let here : number + 0 ≡ number = omega arith in rw here at (some_size 10 0 (omega arith) behind)
