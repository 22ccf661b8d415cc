-- The words, numbers and symbols of a record: each is read back, holds no LF, and is spelled in one way. Assumes nothing.
use Prim.Native.Nat.{ℕ, ◌≤◌}
use Rattle.block.specs.Dna.{acgt}
use Rattle.block.specs.Format.{all_valid, valid_symbol, invalid}
use Rattle.block.specs.declared.data.DataType.{DataType}
use Rattle.block.specs.declared.model.CharacterOrdering.{CharacterOrdering}
use Rattle.lexer.proofs.Basics.{and_left, and_right, picked, picked_value, same_true, or-both}
use Rattle.lexer.specs.Base.{pick, bytes, among, same}
use Rattle.record.proofs.CellLaws.{decimal-free}
use Rattle.record.proofs.DecimalLaws.{is_digit, undecimal-decimal, decimal-undecimal}
use Rattle.record.specs.Decimal.{decimal, undecimal}
use Rattle.block.specs.Sound.{sound_symbols, most_symbols, distinct}
use Rattle.record.specs.Spell.{type_word, order_word}
use Rattle.record.specs.Unspell.{type_of, order_of, most, count_of}
use borrow.Author.Tests.{ne_eqb, le-leb, leb-true}
use lib.Dec.{leb}
use lib.ListN.{length}
use mathlib.Core.Bool.{Bool, true, false, ◌&&◌, not}
use mathlib.Core.List.{List, [], ◌∷◌}
use mathlib.Core.Option.{none, some, bind, bind-eq-some_iff, none-ne-some, some-injective}
use mathlib.Core.Path.{◌≡◌, refl, sym, ap, ◌∙◌}
use native.Mathlib.Omega.{arith}

-- One of two words
module _ {A : Type 0} (enc : A → List ℕ) (x y : A) (v : List ℕ) (a : A) where
  word-spelled : pick (same v (enc x)) (some x) (pick (same v (enc y)) (some y) none) ≡ some a → enc a ≡ v
  unfolding pick
  word-spelled h = go (same v (enc x)) refl (same v (enc y)) refl h
    where
      go : (s : Bool) → same v (enc x) ≡ s → (t : Bool) → same v (enc y) ≡ t → pick s (some x) (pick t (some y) none) ≡ some a → enc a ≡ v
      go true e t f g = rw (← some-injective x a g) (sym (same_true v (enc x) e))
      go false e true f g = rw (← some-injective y a g) (sym (same_true v (enc y) f))
      go false e false f g = absurd (none-ne-some a g)

-- Data types and orderings
pub type-read : (t : DataType) → type_of (type_word t) ≡ some t
unfolding type_of type_word bytes same pick
type-read DataType.Standard = refl
type-read DataType.Dna = refl

pub type-clean : (t : DataType) → among 10 (type_word t) ≡ false
unfolding type_word bytes among
type-clean DataType.Standard = refl
type-clean DataType.Dna = refl

pub type-spelled : (v : List ℕ) (t : DataType) → among 10 v ≡ false → type_of v ≡ some t → type_word t ≡ v
unfolding type_of type_word
type-spelled v t clean h = word-spelled type_word DataType.Standard DataType.Dna v t h

pub order-read : (o : CharacterOrdering) → order_of (order_word o) ≡ some o
unfolding order_of order_word bytes same pick
order-read CharacterOrdering.Ordered = refl
order-read CharacterOrdering.Unordered = refl

pub order-clean : (o : CharacterOrdering) → among 10 (order_word o) ≡ false
unfolding order_word bytes among
order-clean CharacterOrdering.Ordered = refl
order-clean CharacterOrdering.Unordered = refl

pub order-spelled : (v : List ℕ) (o : CharacterOrdering) → among 10 v ≡ false → order_of v ≡ some o → order_word o ≡ v
unfolding order_of order_word
order-spelled v o clean h = word-spelled order_word CharacterOrdering.Ordered CharacterOrdering.Unordered v o h

-- Numbers and counts
pub decimal-clean : (n : ℕ) → among 10 (decimal n) ≡ false
unfolding is_digit
decimal-clean n = decimal-free 10 refl n

pub number_spelled : (v : List ℕ) (n : ℕ) → among 10 v ≡ false → undecimal v ≡ some n → decimal n ≡ v
number_spelled v n clean h = decimal-undecimal v n h

pub count-read : (n : ℕ) → 1 ≤ n → n ≤ most → count_of (decimal n) ≡ some n
unfolding count_of bind pick
count-read n l h = rw (undecimal-decimal, le-leb 1 n l, le-leb n most h)

pub count-known : (v : List ℕ) (n : ℕ) → count_of v ≡ some n → (undecimal v ≡ some n) × (n ≤ most)
unfolding count_of
count-known v n h =
    let k = (bind-eq-some_iff (undecimal v) (λ m. pick (leb 1 m && leb m most) (some m) none)).0 h in
    let small : leb k.0 most ≡ true = and_right (leb 1 k.0) _ (picked _ k.0 n k.2) in
    let e : k.0 ≡ n = picked_value _ k.0 n k.2 in
    (k.1 ∙ ap some e, rw e at (leb-true k.0 most small))

pub count-spelled : (v : List ℕ) (n : ℕ) → among 10 v ≡ false → count_of v ≡ some n → decimal n ≡ v
count-spelled v n clean h = decimal-undecimal v n (count-known v n h).0

-- Symbols
valid-clean : (s : List ℕ) → all_valid s ≡ true → among 10 s ≡ false
unfolding all_valid valid_symbol among
valid-clean [] h = refl
valid-clean (b ∷ r) h =
    let valid : leb 33 b && leb b 126 && not (among b invalid) ≡ true = and_left _ (all_valid r) h in
    let low : 33 ≤ b = leb-true 33 b (and_left _ (leb b 126) (and_left _ (not (among b invalid)) valid)) in
    or-both (ne_eqb 10 b (λ q. omega arith)) (valid-clean r (and_right (valid_symbol b) _ h))

pub symbols-clean : (t : DataType) (s : List ℕ) (gaps : Bool) → sound_symbols t s gaps ≡ true → among 10 s ≡ false
unfolding sound_symbols acgt bytes among
symbols-clean DataType.Standard s gaps h = valid-clean s (and_right (leb 2 (length s) && leb (length s) (most_symbols gaps)) _ (and_left _ (distinct s) h))
symbols-clean DataType.Dna s gaps h = ap (among 10) (same_true s acgt h)
