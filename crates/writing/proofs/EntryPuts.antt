-- What is put for a character where its lines stand: its label, its state labels, its entry and its type. Assumes nothing.
use Prim.Native.Nat.{ℕ, suc, ◌+◌, ◌-◌, ◌≤◌, ◌<◌, min}
use Rattle.block.specs.Reading.{Character}
use Rattle.block.specs.declared.model.CharacterOrdering.{CharacterOrdering}
use Rattle.emit.proofs.PutLaws.{puts-as, puts_none, puts_then}
use Rattle.emit.specs.Puts.{Puts}
use Rattle.judging.specs.declared.Shape.{Shape}
use Rattle.lexer.proofs.Basics.{not-both, or_right}
use Rattle.lexer.specs.Base.{bytes, is_empty, pick}
use Rattle.record.specs.Decimal.{decimal}
use Rattle.record.specs.Form.{any_label, comma, form_assumptions, form_each, form_entries, form_entry, form_label, form_labels, form_states, form_types}
use Rattle.record.specs.Spell.{escaped, order_word, spell_characters, spell_states}
use Rattle.writing.proofs.LinePlaces.{byte-here, characters-begin, label-tested, line-rest, skip-over, states-none, states-some}
use Rattle.writing.proofs.PutWalks.{Going, going_start}
use Rattle.writing.specs.CharacterLines.{AssumptionsPut, EntriesPut, EntryPut, LabelFound, LabelPut, LabelsPut, LabelsTold, NextFound, NoState, OrderFound, PutOn, Stands, StatesFound, StatesPut, TypePut, TypesPut, label_on, order_on}
use Rattle.writing.specs.FormPut.{QuotedPut}
use Rattle.writing.specs.declared.Putting.{Putting}
use borrow.Author.Tests.{eq-eqb}
use lib.ListN.{length, get_or, drop}
use mathlib.Core.Bool.{Bool, true, false, not, false≢true}
use mathlib.Core.List.{List, [], ◌∷◌, ◌++◌}
use mathlib.Core.Path.{◌≡◌, refl, sym, ap, ◌∙◌}
use native.Mathlib.Nat.{sub-zero}
use native.Mathlib.Numerals.{add-one}
use native.Mathlib.Omega.{arith}

-- The comma before an entry: none before the first.
module _ (first : Bool) (behind : List ℕ) where
  pub comma-none : first ≡ true → behind ≡ comma first behind
  unfolding comma
  comma-none e = rw e

  pub comma-some : first ≡ false → 44 ∷ behind ≡ comma first behind
  unfolding comma
  comma-some e = rw e

-- A label: nothing is put for the empty one.
module _ (b : List ℕ) (at u : ℕ) (here : u ≡ get_or b at 0) where
  pub label-none : u ≡ 10 → {buffer : List ℕ} {n : ℕ} → LabelPut b at buffer n buffer n
  unfolding form_label is_empty
  label-none e {buffer} {n} = record { put = go }
    where
      go : (label rest : List ℕ) → drop at b ≡ escaped label ++ (10 ∷ rest) → Puts buffer n (form_label label) buffer n
      go [] rest stands = puts_none
      go (x ∷ m) rest stands = not-both (label-tested b at (x ∷ m) rest stands) (eq-eqb _ 10 (sym here ∙ e))

  pub label-some : (u ≡ 10 → ⊥) → {before middle after : List ℕ} {n m : ℕ} {r : Putting} → Puts before n (λ behind. 32 ∷ behind) middle m
      → QuotedPut b at middle m after r → LabelPut b at before n after r.n
  unfolding form_label escaped
  label-some other {before} {after = after} {n} {r = r} f q = record { put = go }
    where
      go : (label rest : List ℕ) → drop at b ≡ escaped label ++ (10 ∷ rest) → Puts before n (form_label label) after r.n
      go [] rest stands = absurd (other (here ∙ byte-here b at _ stands))
      go (x ∷ m) rest stands = puts_then f (q (x ∷ m) rest stands).put

-- State labels: none where no `s` stands, and else one, with a blank before it, and the rest.
module _ (b : List ℕ) (i : ℕ) where
  pub each_none : (get_or b i 0 ≡ 115 → ⊥) → {buffer : List ℕ} {n : ℕ} → StatesPut form_each b i buffer n buffer (record { at = i; n = n })
  unfolding form_each spell_states
  each_none differs =
      record {
        put = λ states behind other e.
            let none = states-none b i behind other differs states e in
            rw none (record { next = rw none at e; put = puts_none });
      }

  pub each_turn : get_or b i 0 ≡ 115 → {buffer middle later : List ℕ} {n m j : ℕ} {q : Putting} → Puts buffer n (λ behind. 32 ∷ behind) middle m
      → j ≡ min (i + 6) (length b) → QuotedPut b j middle m later q → (after : List ℕ) (r : Putting)
      → StatesPut form_each b q.at later q.n after r → StatesPut form_each b i buffer n after r
  unfolding form_each bytes
  each_turn first {buffer} {n = n} {j = j} {q} f skipped quote after r each = record { put = go }
    where
      go : (states : List (List ℕ)) (behind : List ℕ) → NoState behind → drop i b ≡ spell_states states behind
          → PutOn b behind buffer n (form_each states) after r
      go states behind other e =
          let (s, more, same, here) = states-some b i behind other first states e in
          let name : drop j b ≡ escaped s ++ (10 ∷ spell_states more behind) = skip-over b i j (bytes "state=") _ skipped here in
          let put = quote s _ name in
          let rest = each.put more behind other (line-rest b j q.at (escaped s) _ put.next name) in
          rw same (record { next = rest.next; put = puts_then f (puts_then put.put rest.put) })

-- A slash before them, if there are any.
module _ (b : List ℕ) (i u : ℕ) (here : u ≡ get_or b i 0) where
  pub slash-none : (u ≡ 115 → ⊥) → {buffer : List ℕ} {n : ℕ} → StatesPut form_states b i buffer n buffer (record { at = i; n = n })
  unfolding form_states spell_states
  slash-none differs =
      record {
        put = λ states behind other e.
            let none = states-none b i behind other (λ q. differs (here ∙ q)) states e in
            rw none (record { next = rw none at e; put = puts_none });
      }

  pub slash-some : u ≡ 115 → {before middle after : List ℕ} {n m : ℕ} {r : Putting} → Puts before n (λ behind. 32 ∷ 47 ∷ behind) middle m
      → StatesPut form_each b i middle m after r → StatesPut form_states b i before n after r
  unfolding form_states
  slash-some first f each =
      record {
        put = λ states behind other e.
            let (s, more, same, stands) = states-some b i behind other (sym here ∙ first) states e in
            let rest = each.put states behind other e in
            rw same (record { next = rest.next; put = puts_then f (rw same at rest.put) });
      }

-- An entry: the comma, a blank and the number, the label, the state labels.
pub entry-put : (b : List ℕ) (label states number : ℕ) (first : Bool) {a d e f g h : List ℕ} {n m o p q : ℕ} {r : Putting}
    → Puts a n (comma first) d m → Puts d m (λ behind. 32 ∷ behind) e o → Puts e o (λ behind. decimal number ++ behind) f p
    → LabelPut b label f p g q → StatesPut form_states b states g q h r → EntryPut first number b label states a n h r
unfolding form_entry label_on
entry-put b label states number first x y z l s =
    record {
      put = λ c behind stands.
          let rest = s.put c.states behind stands.no_more stands.states_here in
          record { next = rest.next; put = puts_then x (puts_then y (puts_then z (puts_then (l.put c.label _ stands.label_here) rest.put))) };
    }

-- A type, by its first byte.
module _ (b : List ℕ) (at u : ℕ) (here : u ≡ get_or b at 0) where
  type-ordered : u ≡ 79 → (o : CharacterOrdering) (t behind : List ℕ) → drop at b ≡ order_word o ++ (10 ∷ t)
      → bytes " ORD" ++ behind ≡ 32 ∷ order_word o ++ behind
  unfolding order_word bytes
  type-ordered e CharacterOrdering.Ordered t behind s = refl
  type-ordered e CharacterOrdering.Unordered t behind s = absurd (omega (arith, byte-here b at _ s))

  type-unordered : (u ≡ 79 → ⊥) → (o : CharacterOrdering) (t behind : List ℕ) → drop at b ≡ order_word o ++ (10 ∷ t)
      → bytes " UNORD" ++ behind ≡ 32 ∷ order_word o ++ behind
  unfolding order_word bytes
  type-unordered other CharacterOrdering.Ordered t behind s = absurd (other (here ∙ byte-here b at _ s))
  type-unordered other CharacterOrdering.Unordered t behind s = refl

  pub ordered-put : u ≡ 79 → {before after : List ℕ} {n m : ℕ} → Puts before n (λ behind. bytes " ORD" ++ behind) after m → TypePut b at before n after m
  unfolding order_on
  ordered-put e f = record { put = λ c rest s. puts-as f (λ behind. type-ordered e c.ordering _ behind s) }

  pub unordered-put : (u ≡ 79 → ⊥) → {before after : List ℕ} {n m : ℕ} → Puts before n (λ behind. bytes " UNORD" ++ behind) after m
      → TypePut b at before n after m
  unfolding order_on
  unordered-put other f = record { put = λ c rest s. puts-as f (λ behind. type-unordered other c.ordering _ behind s) }

-- A list that is not other than empty is empty, and no state labels are spelled as nothing.
empty-list : (l : List (List ℕ)) → not (is_empty l) ≡ false → l ≡ []
unfolding is_empty
empty-list [] e = refl
empty-list (s ∷ r) e = absurd (false≢true (sym e))

states-over : (behind : List ℕ) → spell_states [] behind ≡ behind
unfolding spell_states
states-over behind = refl

-- Behind the places of a character without labels stands what stands behind it.
plain-next : {b : List ℕ} {label states : ℕ} (c : Character) (behind : List ℕ) → any_label c ≡ false → Stands b label states c behind
    → drop states b ≡ behind
unfolding any_label
plain-next c behind none stands =
    let empty : c.states ≡ [] = empty-list c.states (or_right (not (is_empty c.label)) _ none) in
    stands.states_here ∙ ap (λ l. spell_states l behind) empty ∙ states-over behind

-- The characters from one on: places of the first, and what is put for it in front of what is put for the rest.
module _ (b : List ℕ) (i k total : ℕ) (more : k < total) (label order states : ℕ) (l : LabelFound b i label) (o : OrderFound b label order)
    (s : StatesFound b order states) where
  -- The first character stands where it was found, in front of the rest.
  found_first : (c : Character) (r : List Character) → drop i b ≡ spell_characters (suc k) (c ∷ r) []
      → Stands b label states c (spell_characters (suc (k + 1)) r [])
  unfolding spell_characters
  found_first c r e =
      let here = l.found (suc k) c _ e in
      rw (add-one k)
      (record { label_here = here; states_here = s.found c _ (o.found c _ here); no_more = characters-begin (suc (suc k)) r })

  -- So many are left behind it.
  fewer : (n : ℕ) → total - k ≡ suc n → total - (k + 1) ≡ n
  fewer n e = omega arith

  no-fewer : total - k ≡ 0 → ⊥
  no-fewer e = omega arith

  module _ (first : Bool) (labels : Bool) (t : LabelsTold b label states labels) where
    -- A character without labels has no entry.
    pub entries-plain : labels ≡ false → {buffer : List ℕ} {n : ℕ} (after : List ℕ) (z : ℕ)
        → EntriesPut first b states (suc (k + 1)) (total - (k + 1)) buffer n after z → EntriesPut first b i (suc k) (total - k) buffer n after z
    unfolding form_entries pick
    entries-plain none {buffer} {n} after z rest = record { put = go }
      where
        go : (cs : List Character) → drop i b ≡ spell_characters (suc k) cs [] → total - k ≡ length cs → Puts buffer n (form_entries first (suc k) cs) after z
        go [] e count = absurd (no-fewer count)
        go (c ∷ r) e count =
            let stands = found_first c r e in
            let absent : any_label c ≡ false = sym (t.told c _ stands) ∙ none in
            puts-as (rest.put r (plain-next c _ absent stands) (fewer (length r) count)) (λ behind. rw (add-one k, absent))

    pub entries-entry : labels ≡ true → {buffer middle : List ℕ} {n : ℕ} {q : Putting} → EntryPut first (k + 1) b label states buffer n middle q
        → (after : List ℕ) (z : ℕ) → EntriesPut false b q.at (suc (k + 1)) (total - (k + 1)) middle q.n after z
        → EntriesPut first b i (suc k) (total - k) buffer n after z
    unfolding form_entries pick
    entries-entry some {buffer} {n = n} entry after z rest = record { put = go }
      where
        go : (cs : List Character) → drop i b ≡ spell_characters (suc k) cs [] → total - k ≡ length cs → Puts buffer n (form_entries first (suc k) cs) after z
        go [] e count = absurd (no-fewer count)
        go (c ∷ r) e count =
            let stands = found_first c r e in
            let present : any_label c ≡ true = sym (t.told c _ stands) ∙ some in
            let put = entry.put c _ stands in
            puts-as (puts_then put.put (rest.put r put.next (fewer (length r) count))) (λ behind. rw (add-one k, present))

  -- Its type is put.
  pub types-turn : (next : ℕ) → NextFound b states next → {buffer middle : List ℕ} {n m : ℕ} → TypePut b order buffer n middle m
      → (after : List ℕ) (z : ℕ) → TypesPut b next (suc (k + 1)) (total - (k + 1)) middle m after z → TypesPut b i (suc k) (total - k) buffer n after z
  unfolding form_types
  types-turn next found {buffer} {n = n} type after z rest = record { put = go }
    where
      go : (cs : List Character) → drop i b ≡ spell_characters (suc k) cs [] → total - k ≡ length cs → Puts buffer n (form_types cs) after z
      go [] e count = absurd (no-fewer count)
      go (c ∷ r) e count =
          let stands = found_first c r e in
          puts_then (type.put c _ (o.found c _ stands.label_here))
          (rest.put r (found.found c.states _ stands.no_more stands.states_here) (fewer (length r) count))

-- All characters are left, and none is.
module _ {b : List ℕ} {i total : ℕ} {buffer : List ℕ} {n : ℕ} where
  pub entries-start : Going buffer (EntriesPut true b i 1 total buffer n) buffer (EntriesPut true b i 1 (total - 0) buffer n)
  entries-start = rw (sub-zero total) going_start

  pub entries-end : (first : Bool) (k : ℕ) → total ≤ k → EntriesPut first b i (suc k) (total - k) buffer n buffer n
  unfolding form_entries
  entries-end first k over = record { put = go }
    where
      go : (cs : List Character) → drop i b ≡ spell_characters (suc k) cs [] → total - k ≡ length cs → Puts buffer n (form_entries first (suc k) cs) buffer n
      go [] e count = puts_none
      go (c ∷ r) e count = absurd (omega arith)

  pub types-start : Going buffer (TypesPut b i 1 total buffer n) buffer (TypesPut b i 1 (total - 0) buffer n)
  types-start = rw (sub-zero total) going_start

  pub types-end : (k : ℕ) → total ≤ k → TypesPut b i (suc k) (total - k) buffer n buffer n
  unfolding form_types
  types-end k over = record { put = go }
    where
      go : (cs : List Character) → drop i b ≡ spell_characters (suc k) cs [] → total - k ≡ length cs → Puts buffer n (form_types cs) buffer n
      go [] e count = puts_none
      go (c ∷ r) e count = absurd (omega arith)

-- The command of the labels, and the block of the types: nothing, or the fixed bytes with what stands between them.
module _ (b : List ℕ) (s : Shape) where
  pub labels-none : s.labelled ≡ false → {buffer : List ℕ} {n : ℕ} → LabelsPut b s buffer n buffer n
  unfolding form_labels pick
  labels-none none cs e count told = puts-as puts_none (λ behind. rw (sym told ∙ none))

  pub labels-some : s.labelled ≡ true → {before middle later after : List ℕ} {n m k z : ℕ}
      → Puts before n (λ behind. bytes "CHARSTATELABELS" ++ behind) middle m → EntriesPut true b s.lines 1 s.characters.0 middle m later k
      → Puts later k (λ behind. bytes ";\n" ++ behind) after z → LabelsPut b s before n after z
  unfolding form_labels pick
  labels-some some x y w cs e count told = puts-as (puts_then x (puts_then (y.put cs e count) w)) (λ behind. rw (sym told ∙ some))

  pub assumptions-none : s.ordered ≡ false → {buffer : List ℕ} {n : ℕ} → AssumptionsPut b s buffer n buffer n
  unfolding form_assumptions pick
  assumptions-none none cs e count told = puts-as puts_none (λ behind. rw (sym told ∙ none))

  pub assumptions-some : s.ordered ≡ true → {before middle later after : List ℕ} {n m k z : ℕ}
      → Puts before n (λ behind. bytes "BEGIN ASSUMPTIONS;\nTYPESET * w (VECTOR) =" ++ behind) middle m
      → TypesPut b s.lines 1 s.characters.0 middle m later k → Puts later k (λ behind. bytes ";\nEND;\n" ++ behind) after z
      → AssumptionsPut b s before n after z
  unfolding form_assumptions pick
  assumptions-some some x y w cs e count told = puts-as (puts_then x (puts_then (y.put cs e count) w)) (λ behind. rw (sym told ∙ some))
