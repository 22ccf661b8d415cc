-- Characters with neither a label nor state labels, told by four of their bytes. Assumes nothing.
use Prim.Native.Nat.{ℕ, suc, ◌+◌, ◌-◌, ◌≤◌, ◌<◌}
use Rattle.block.specs.Reading.{Character}
use Rattle.block.specs.declared.model.CharacterOrdering.{CharacterOrdering}
use Rattle.emit.proofs.PutLaws.{puts-as, puts_then}
use Rattle.emit.specs.Puts.{Puts}
use Rattle.naming.proofs.RowLaws.{drop-behind}
use Rattle.lexer.proofs.Basics.{not-both, or_left, or_right}
use Rattle.lexer.specs.Base.{among, bytes, is_empty, pick}
use Rattle.lexer.specs.Words.{digits}
use Rattle.record.proofs.DecimalLaws.{digits_decimal}
use Rattle.record.proofs.WordLaws.{decimal-clean}
use Rattle.record.specs.Decimal.{decimal, decimal_from, digit}
use Rattle.record.specs.Form.{any_label, form_entries, form_types}
use Rattle.record.specs.Spell.{escaped, order_word, spell_characters, spell_states}
use Rattle.writing.proofs.LinePlaces.{label-tested}
use Rattle.writing.specs.CharacterLines.{EntriesPut, LabelFound, PlainAt, TypesPut, count_on, first_letter, label_on, order_on, plain_size}
use borrow.Author.Tests.{eqb-false, eq-eqb}
use lib.Dec.{eqb}
use lib.ListN.{length, get_or, drop}
use lib.Seq.{get_or-drop}
use mathlib.Core.Bool.{Bool, false}
use mathlib.Core.List.{List, [], ◌∷◌, ◌++◌}
use mathlib.Core.Path.{◌≡◌, refl, sym, ap, ◌∙◌}
use native.Mathlib.Numerals.{add-one}
use native.Mathlib.Omega.{arith}

-- A byte so far behind a place is so far behind the front of what stands there.
byte-behind : (b : List ℕ) (at k : ℕ) (l : List ℕ) → drop at b ≡ l → get_or b (at + k) 0 ≡ get_or l k 0
byte-behind b at k l e = sym (get_or-drop at b k 0) ∙ ap (λ t. get_or t k 0) e

-- Digits that are a `0` with an LF behind it are those of 0.
zero-digits : (d rest : List ℕ) → among 10 d ≡ false → get_or (d ++ (10 ∷ rest)) 0 0 ≡ 48 → get_or (d ++ (10 ∷ rest)) 1 0 ≡ 10 → digits 0 d ≡ 0
unfolding among digits pick
zero-digits [] rest clean first second = absurd (omega arith)
zero-digits (x ∷ []) rest clean first second = rw first
zero-digits (x ∷ y ∷ d) rest clean first second = absurd (eqb-false 10 y (or_left _ (among 10 d) (or_right (eqb 10 x) _ clean)) (sym second))

zero-decimal : (n : ℕ) (rest : List ℕ) → get_or (decimal n ++ (10 ∷ rest)) 0 0 ≡ 48 → get_or (decimal n ++ (10 ∷ rest)) 1 0 ≡ 10 → n ≡ 0
zero-decimal n rest first second = sym (digits_decimal n) ∙ zero-digits (decimal n) rest (decimal-clean n) first second

-- Four bytes of a character of a type that has neither a label nor state labels, from the place of its label on.
record Told (b : List ℕ) (at : ℕ) (o : CharacterOrdering) : Type 0 where
  line : get_or b at 0 ≡ 10
  order : get_or b (at + 7) 0 ≡ first_letter o
  zero : get_or b (at + (plain_size o - 2)) 0 ≡ 48
  end : get_or b (at + (plain_size o - 1)) 0 ≡ 10

module _ (b : List ℕ) (at : ℕ) (behind : List ℕ) where
  -- What they tell of what stands there.
  told : (wanted : CharacterOrdering) → Told b at wanted → (label : List ℕ) (o : CharacterOrdering) (states : List (List ℕ))
      → drop at b ≡ escaped label ++ (10 ∷ (bytes "order=" ++ (order_word o ++ (10 ∷ (bytes "states=" ++ (decimal (length states) ++ (10 ∷ spell_states states behind)))))))
      → (label ≡ []) × (o ≡ wanted) × (states ≡ []) × (drop (at + plain_size wanted) b ≡ behind)
  unfolding escaped bytes order_word decimal decimal_from digit spell_states is_empty
  told wanted t (x ∷ m) o states e = not-both (label-tested b at (x ∷ m) _ e) (eq-eqb _ 10 t.line)
  told CharacterOrdering.Unordered t [] CharacterOrdering.Ordered states e = absurd (omega (arith, byte-behind b at 7 _ e, t.order))
  told CharacterOrdering.Ordered t [] CharacterOrdering.Unordered states e = absurd (omega (arith, byte-behind b at 7 _ e, t.order))
  told CharacterOrdering.Unordered t [] CharacterOrdering.Unordered (s ∷ r) e =
      let none = zero-decimal (suc (length r)) _ (sym (byte-behind b at 20 _ e) ∙ t.zero) (sym (byte-behind b at 21 _ e) ∙ t.end) in
      absurd (omega arith)
  told CharacterOrdering.Ordered t [] CharacterOrdering.Ordered (s ∷ r) e =
      let none = zero-decimal (suc (length r)) _ (sym (byte-behind b at 18 _ e) ∙ t.zero) (sym (byte-behind b at 19 _ e) ∙ t.end) in
      absurd (omega arith)
  told CharacterOrdering.Unordered t [] CharacterOrdering.Unordered [] e = (refl, refl, refl, drop-behind b at (bytes "\norder=UNORD\nstates=0\n") behind e)
  told CharacterOrdering.Ordered t [] CharacterOrdering.Ordered [] e = (refl, refl, refl, drop-behind b at (bytes "\norder=ORD\nstates=0\n") behind e)

-- They tell that the character is such.
pub plain_at : (b : List ℕ) (at : ℕ) (o : CharacterOrdering) → at + plain_size o ≤ length b → get_or b at 0 ≡ 10 → get_or b (at + 7) 0 ≡ first_letter o
    → get_or b (at + plain_size o - 2) 0 ≡ 48 → get_or b (at + plain_size o - 1) 0 ≡ 10 → PlainAt b at o
unfolding label_on order_on count_on any_label is_empty
plain_at b at o inside line order zero end =
    let bytes-of : Told b at o = record { line = line; order = order; zero = rw (back o 2 (omega arith)) at zero; end = rw (back o 1 (omega arith)) at end } in
    record {
      inside = inside;
      bare = λ c behind e. let t = told b at behind o bytes-of c.label c.ordering c.states e in rw (t.0, t.2);
      typed = λ c behind e. (told b at behind o bytes-of c.label c.ordering c.states e).1;
      next = λ c behind e. (told b at behind o bytes-of c.label c.ordering c.states e).3;
    }
  where
    back : (o : CharacterOrdering) (k : ℕ) → k ≤ 2 → at + plain_size o - k ≡ at + (plain_size o - k)
    back CharacterOrdering.Unordered k h = omega arith
    back CharacterOrdering.Ordered k h = omega arith

-- Such a character has no entry, and its type is put at once.
module _ (b : List ℕ) (i k total : ℕ) (more : k < total) (label : ℕ) (l : LabelFound b i label) (o : CharacterOrdering) (p : PlainAt b label o) where
  pub entries-bare : {first : Bool} {buffer : List ℕ} {n : ℕ} (after : List ℕ) (z : ℕ)
      → EntriesPut first b (label + plain_size o) (suc (k + 1)) (total - (k + 1)) buffer n after z → EntriesPut first b i (suc k) (total - k) buffer n after z
  unfolding form_entries spell_characters pick
  entries-bare {first} {buffer} {n} after z rest = record { put = go }
    where
      go : (cs : List Character) → drop i b ≡ spell_characters (suc k) cs [] → total - k ≡ length cs → Puts buffer n (form_entries first (suc k) cs) after z
      go [] e count = absurd (omega arith)
      go (c ∷ r) e count =
          let here = l.found (suc k) c _ e in
          let bare : any_label c ≡ false = p.bare c _ here in
          puts-as (rest.put r (rw (add-one k) (p.next c _ here)) (omega arith)) (λ behind. rw (add-one k, bare))

  pub types-bare : {buffer middle : List ℕ} {n m : ℕ} → Puts buffer n (λ behind. 32 ∷ order_word o ++ behind) middle m → (after : List ℕ) (z : ℕ)
      → TypesPut b (label + plain_size o) (suc (k + 1)) (total - (k + 1)) middle m after z → TypesPut b i (suc k) (total - k) buffer n after z
  unfolding form_types spell_characters
  types-bare {buffer} {n = n} f after z rest = record { put = go }
    where
      go : (cs : List Character) → drop i b ≡ spell_characters (suc k) cs [] → total - k ≡ length cs → Puts buffer n (form_types cs) after z
      go [] e count = absurd (omega arith)
      go (c ∷ r) e count =
          let here = l.found (suc k) c _ e in
          let typed = p.typed c _ here in
          puts-as (puts_then f (rest.put r (rw (add-one k) (p.next c _ here)) (omega arith))) (λ behind. rw typed)
