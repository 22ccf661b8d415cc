-- Bytes that are read as a reading are its record, and the reading is sound and its counts are small. Assumes nothing.
use Prim.Native.Nat.{ℕ, zero, suc, ◌+◌, ◌≤◌}
use Prim.Native.String.{String}
use Rattle.block.specs.Cell.{Cell}
use Rattle.block.specs.Reading.{Taxon, Character, Reading}
use Rattle.block.specs.declared.model.CharacterOrdering.{CharacterOrdering}
use Rattle.lexer.proofs.Basics.{picked, picked_value}
use Rattle.lexer.specs.Base.{pick, among}
use Rattle.record.proofs.CellLaws.{cells-spelled}
use Rattle.record.proofs.DecimalLaws.{decimal-undecimal}
use Rattle.record.proofs.EscapeLaws.{escaped-unescaped}
use Rattle.record.proofs.LineLaws.{made_some, ended, Clean, lined, Valued, valued}
use Rattle.record.proofs.SoundLaws.{test-sound}
use Rattle.record.proofs.WordLaws.{type-spelled, order-spelled, number_spelled, count-known, count-spelled}
use Rattle.record.specs.Decimal.{decimal, undecimal}
use Rattle.record.specs.Demands.{Counted}
use Rattle.block.specs.Sound.{Sound, sound}
use Rattle.record.specs.Spell.{line, type_word, order_word, escaped, spell_cells, spell_taxa, spell_states, spell_character, spell_characters, spell_head, spell}
use Rattle.record.specs.Unspell.{lines, value, made, unescaped, unspell_cells, type_of, order_of, most, count_of, Head, Draft, Next, datatype_line, taxa_line, characters_line, symbols_line, name_line, cells_line, character_line, label_line, order_line, states_line, state_line, no_line, no_taxa, with_taxon, with_character, with_states, line_turn, turns, drafted, shape, if_sound, unspell}
use borrow.Author.Tests.{eqb-true}
use lib.Dec.{eqb}
use lib.ListN.{length, length-append}
use mathlib.Core.Bool.{Bool, true, false}
use mathlib.Core.List.{List, [], ◌∷◌, ◌++◌}
use mathlib.Core.Option.{Option, none, some, bind, bind-eq-some_iff, none-ne-some, some-injective}
use mathlib.Core.Path.{◌≡◌, refl, sym, ap, subst, ◌∙◌}
use native.Mathlib.Omega.{arith}

-- A line that is read: its value, and what the value is read as, which spells it.
line-valued : {B : Type 0} (key : String) (f : List ℕ → Option B) (l : List ℕ) (b : B) → among 10 l ≡ false → bind (value key l) f ≡ some b
    → (v : List ℕ) × (f v ≡ some b) × Valued key l v
line-valued key f l b clean h =
    let v = (bind-eq-some_iff (value key l) f).0 h in
    (v.0, v.2, valued key l v.0 clean v.1)

record Taken {A B : Type 0} (key : String) (dec : List ℕ → Option A) (enc : A → List ℕ) (f : A → B) (l : List ℕ) (b : B) : Type 0 where
  got : A
  makes : f got ≡ b
  text : List ℕ
  read : dec text ≡ some got
  whole : (behind : List ℕ) → line key (enc got) behind ≡ l ++ (10 ∷ behind)

taken : {A B : Type 0} (key : String) (dec : List ℕ → Option A) (enc : A → List ℕ)
    → ((v : List ℕ) (a : A) → among 10 v ≡ false → dec v ≡ some a → enc a ≡ v) → (f : A → B) (l : List ℕ) (b : B) → among 10 l ≡ false
    → bind (value key l) (λ v. made f (dec v)) ≡ some b → Taken key dec enc f l b
taken key dec enc spelled f l b clean h =
    let v = line-valued key (λ w. made f (dec w)) l b clean h in
    let a = made_some f (dec v.0) b v.1 in
    let e : enc a.0 ≡ v.0 = spelled v.0 a.0 v.2.clean a.1 in
    record { got = a.0; makes = a.2; text = v.0; read = a.1; whole = λ behind. rw e (sym (v.2.whole behind)) }

-- The bytes of the lines that led to a line, in front of what stands behind them
unfoldable head_spelled : Head → List ℕ → List ℕ
head_spelled h behind =
    line "datatype=" (type_word h.data_type)
    (line "taxa=" (decimal h.taxa)
    (line "characters=" (decimal h.characters)
    (line "symbols=" h.symbols behind)))

unfoldable before_taxon : Draft → List ℕ → List ℕ
before_taxon d behind = head_spelled d.head (spell_taxa d.taxa behind)

unfoldable before_character : Draft → List ℕ → List ℕ
before_character d behind = before_taxon d (spell_characters 1 d.characters behind)

unfoldable before_label : Draft → List ℕ → List ℕ
before_label d behind = before_character d (line "character=" (decimal (suc (length d.characters))) behind)

unfoldable before_order : Draft → List ℕ → List ℕ → List ℕ
before_order d l behind = before_label d (line "label=" (escaped l) behind)

unfoldable before_states : Draft → List ℕ → CharacterOrdering → List ℕ → List ℕ
before_states d l o behind = before_order d l (line "order=" (order_word o) behind)

unfoldable before_state : Draft → List ℕ → CharacterOrdering → ℕ → List (List ℕ) → List ℕ → List ℕ
before_state d l o k s behind = before_states d l o (line "states=" (decimal (length s + k)) (spell_states s behind))

unfoldable spelled : Next → List ℕ → List ℕ
spelled datatype_line behind = behind
spelled (taxa_line t) behind = line "datatype=" (type_word t) behind
spelled (characters_line t n) behind = line "datatype=" (type_word t) (line "taxa=" (decimal n) behind)
spelled (symbols_line t n k) behind = line "datatype=" (type_word t) (line "taxa=" (decimal n) (line "characters=" (decimal k) behind))
spelled (name_line d) behind = before_taxon d behind
spelled (cells_line d n) behind = before_taxon d (line "name=" (escaped n) behind)
spelled (character_line d) behind = before_character d behind
spelled (label_line d) behind = before_label d behind
spelled (order_line d l) behind = before_order d l behind
spelled (states_line d l o) behind = before_states d l o behind
spelled (state_line d l o k s) behind = before_state d l o k s behind
spelled (no_line d) behind = before_character d behind

-- What is known of the counts on the way
record Small (h : Head) : Type 0 where
  taxa : h.taxa ≤ most
  characters : h.characters ≤ most

abbrev Opened : Draft → Type 0
Opened d = Small d.head × (d.characters ≡ [])

abbrev Taxed : Draft → Type 0
Taxed d = Small d.head × (length d.taxa ≡ d.head.taxa)

abbrev Held : Next → Type 0
Held datatype_line = Unit {0}
Held (taxa_line t) = Unit {0}
Held (characters_line t n) = n ≤ most
Held (symbols_line t n k) = (n ≤ most) × (k ≤ most)
Held (name_line d) = Opened d
Held (cells_line d n) = Opened d
Held (character_line d) = Taxed d
Held (label_line d) = Taxed d
Held (order_line d l) = Taxed d
Held (states_line d l o) = Taxed d
Held (state_line d l o k s) = Taxed d
Held (no_line d) = Taxed d × (length d.characters ≡ d.head.characters)

-- The bytes that led to a line are these, and what is known holds of it.
record Known (before : List ℕ → List ℕ) (n : Next) : Type 0 where
  held : Held n
  bytes : (behind : List ℕ) → spelled n behind ≡ before behind

-- A turn keeps what is known, and adds the line.
abbrev Turned : Next → List ℕ → Next → Type 0
Turned m l n = Known (λ behind. spelled m (l ++ (10 ∷ behind))) n

taxa-snoc : (ts : List Taxon) (t : Taxon) (behind : List ℕ)
    → spell_taxa (ts ++ (t ∷ [])) behind ≡ spell_taxa ts (line "name=" (escaped t.name) (line "cells=" (spell_cells t.cells) behind))
unfolding spell_taxa
taxa-snoc [] t behind = refl
taxa-snoc (u ∷ ts) t behind = rw (taxa-snoc ts t behind)

states-snoc : (s : List (List ℕ)) (x behind : List ℕ)
    → spell_states (s ++ (x ∷ [])) behind ≡ spell_states s (line "state=" (escaped x) behind)
unfolding spell_states
states-snoc [] x behind = refl
states-snoc (y ∷ s) x behind = rw (states-snoc s x behind)

characters-snoc : (k n : ℕ) (cs : List Character) (c : Character) (behind : List ℕ) → k + length cs ≡ n
    → spell_characters k (cs ++ (c ∷ [])) behind ≡ spell_characters k cs (spell_character n c behind)
unfolding spell_characters
characters-snoc k n [] c behind e = ap (λ i. spell_character i c behind) (omega arith)
characters-snoc k n (b ∷ cs) c behind e = rw (characters-snoc (suc k) n cs c behind (omega arith))

-- Behind a taxon
taxon-known : (d : Draft) (n : List ℕ) (cells : List Cell) → Opened d
    → Known (λ behind. before_taxon d (line "name=" (escaped n) (line "cells=" (spell_cells cells) behind))) (with_taxon d n cells)
unfolding with_taxon pick spelled before_character before_taxon spell_characters
taxon-known d n cells o = go (eqb (length e.taxa) d.head.taxa) refl
  where
    e : Draft
    e = record { head = d.head; taxa = d.taxa ++ (record { name = n; cells = cells } ∷ []); characters = d.characters }

    one : (behind : List ℕ) → before_taxon e behind ≡ before_taxon d (line "name=" (escaped n) (line "cells=" (spell_cells cells) behind))
    one behind = ap (head_spelled d.head) (taxa-snoc d.taxa (record { name = n; cells = cells }) behind)

    go : (b : Bool) → eqb (length e.taxa) d.head.taxa ≡ b
        → Known (λ behind. before_taxon d (line "name=" (escaped n) (line "cells=" (spell_cells cells) behind))) (pick b (character_line e) (name_line e))
    go true q = record { held = (o.0, eqb-true (length e.taxa) d.head.taxa q); bytes = λ behind. rw o.1 (one behind) }
    go false q = record { held = o; bytes = one }

-- Behind a character, and before a state line of it or its end
character-known : (d : Draft) (l : List ℕ) (o : CharacterOrdering) (s : List (List ℕ)) → Taxed d
    → Known (before_state d l o 0 s) (with_character d l o s)
unfolding with_character pick spelled before_taxon before_character before_label before_order before_states before_state spell_character
character-known d l o s t = go (eqb (length e.characters) d.head.characters) refl
  where
    c : Character
    c = record { label = l; states = s; ordering = o }

    e : Draft
    e = record { head = d.head; taxa = d.taxa; characters = d.characters ++ (c ∷ []) }

    one : (behind : List ℕ) → before_character e behind ≡ before_state d l o 0 s behind
    one behind =
        let count : length s + 0 ≡ length s = omega arith in
        let last = characters-snoc 1 (suc (length d.characters)) d.characters c behind (omega arith) in
        rw count (ap (before_taxon d) last)

    go : (b : Bool) → eqb (length e.characters) d.head.characters ≡ b
        → Known (before_state d l o 0 s) (pick b (no_line e) (character_line e))
    go true q = record { held = (t, eqb-true (length e.characters) d.head.characters q); bytes = one }
    go false q = record { held = t; bytes = one }

states-known : (d : Draft) (l : List ℕ) (o : CharacterOrdering) (k : ℕ) (s : List (List ℕ)) → Taxed d
    → Known (before_state d l o k s) (with_states d l o k s)
unfolding with_states spelled
states-known d l o zero s t = character-known d l o s t
states-known d l o (suc k) s t = record { held = t; bytes = λ behind. refl }

known_as : {f g : List ℕ → List ℕ} {n : Next} → Known f n → ((behind : List ℕ) → f behind ≡ g behind) → Known g n
known_as k e = record { held = k.held; bytes = λ behind. k.bytes behind ∙ e behind }

-- One line: it is enough to know where its value leads.
turned_by : {A : Type 0} {key : String} {dec : List ℕ → Option A} {enc : A → List ℕ} {f : A → Next} {l : List ℕ} {n : Next} (m : Next) (a : Taken key dec enc f l n)
    → Known (λ behind. spelled m (line key (enc a.got) behind)) (f a.got) → Turned m l n
turned_by {l} m a k = subst (Turned m l) a.makes (known_as k (λ behind. ap (spelled m) (a.whole behind)))

number-turned : (d : Draft) (l : List ℕ) (n : Next) → among 10 l ≡ false → Taxed d → line_turn (character_line d) l ≡ some n
    → Turned (character_line d) l n
unfolding line_turn spelled before_label
number-turned d l n clean held h =
    let next = suc (length d.characters) in
    let judge : ℕ → Option Next = λ k. pick (eqb k next) (some (label_line d)) none in
    let v = line-valued "character=" (λ w. bind (undecimal w) judge) l n clean h in
    let k = (bind-eq-some_iff (undecimal v.0) judge).0 v.1 in
    let e : k.0 ≡ next = eqb-true k.0 next (picked (eqb k.0 next) (label_line d) n k.2) in
    let a : Taken "character=" undecimal decimal (λ i. label_line d) l n =
    record { got = k.0; makes = picked_value (eqb k.0 next) (label_line d) n k.2; text = v.0; read = k.1; whole = λ behind. rw (decimal-undecimal v.0 k.0 k.1) (sym (v.2.whole behind)) }
    in
    turned_by (character_line d) a (record { held = held; bytes = λ behind. rw e })

state-first : (d : Draft) (l : List ℕ) (o : CharacterOrdering) (k : ℕ) (behind : List ℕ)
    → before_state d l o k [] behind ≡ before_states d l o (line "states=" (decimal k) behind)
unfolding before_state spell_states
state-first d l o k behind =
    let e : 0 + k ≡ k = omega arith in
    rw e

state-more : (d : Draft) (l : List ℕ) (o : CharacterOrdering) (k : ℕ) (s : List (List ℕ)) (x behind : List ℕ)
    → before_state d l o k (s ++ (x ∷ [])) behind ≡ before_state d l o (suc k) s (line "state=" (escaped x) behind)
unfolding before_state
state-more d l o k s x behind =
    let e : length (s ++ (x ∷ [])) + k ≡ length s + suc k = omega (arith, length-append s (x ∷ [])) in
    rw (e, states-snoc s x behind)

turned : (m : Next) (l : List ℕ) (n : Next) → among 10 l ≡ false → Held m → line_turn m l ≡ some n → Turned m l n
unfolding line_turn spelled no_taxa before_taxon head_spelled spell_taxa before_label before_order before_states
turned datatype_line l n clean held h =
    turned_by datatype_line (taken "datatype=" type_of type_word type-spelled taxa_line l n clean h) (record { held = tt; bytes = λ behind. refl })
turned (taxa_line t) l n clean held h =
    let a = taken "taxa=" count_of decimal count-spelled (characters_line t) l n clean h in
    turned_by (taxa_line t) a (record { held = (count-known a.text a.got a.read).1; bytes = λ behind. refl })
turned (characters_line t k) l n clean held h =
    let a = taken "characters=" count_of decimal count-spelled (symbols_line t k) l n clean h in
    turned_by (characters_line t k) a (record { held = (held, (count-known a.text a.got a.read).1); bytes = λ behind. refl })
turned (symbols_line t k j) l n clean held h =
    let v = made_some (no_taxa t k j) (value "symbols=" l) n h in
    let w = valued "symbols=" l v.0 clean v.1 in
    let a : Taken "symbols=" some (λ x. x) (no_taxa t k j) l n = record { got = v.0; makes = v.2; text = v.0; read = refl; whole = λ behind. sym (w.whole behind) } in
    turned_by (symbols_line t k j) a (record { held = (record { taxa = held.0; characters = held.1 }, refl); bytes = λ behind. refl })
turned (name_line d) l n clean held h =
    turned_by (name_line d) (taken "name=" unescaped escaped escaped-unescaped (cells_line d) l n clean h) (record { held = held; bytes = λ behind. refl })
turned (cells_line d x) l n clean held h =
    let a = taken "cells=" unspell_cells spell_cells (λ v c clear e. cells-spelled v c e) (with_taxon d x) l n clean h in
    turned_by (cells_line d x) a (taxon-known d x a.got held)
turned (character_line d) l n clean held h = number-turned d l n clean held h
turned (label_line d) l n clean held h =
    turned_by (label_line d) (taken "label=" unescaped escaped escaped-unescaped (order_line d) l n clean h) (record { held = held; bytes = λ behind. refl })
turned (order_line d x) l n clean held h =
    turned_by (order_line d x) (taken "order=" order_of order_word order-spelled (states_line d x) l n clean h) (record { held = held; bytes = λ behind. refl })
turned (states_line d x o) l n clean held h =
    let a = taken "states=" undecimal decimal number_spelled (λ k. with_states d x o k []) l n clean h in
    turned_by (states_line d x o) a (known_as (states-known d x o a.got [] held) (state-first d x o a.got))
turned (state_line d x o zero s) l n clean held h = absurd (none-ne-some n h)
turned (state_line d x o (suc k) s) l n clean held h =
    let a = taken "state=" unescaped escaped escaped-unescaped (λ y. with_states d x o k (s ++ (y ∷ []))) l n clean h in
    turned_by (state_line d x o (suc k) s) a (known_as (states-known d x o k (s ++ (a.got ∷ [])) held) (state-more d x o k s a.got))
turned (no_line d) l n clean held h = absurd (none-ne-some n h)

all-turned : (m : Next) (ls : List (List ℕ)) (n : Next) → Clean ls → Held m → turns m ls ≡ some n
    → Known (λ behind. spelled m (ended ls behind)) n
unfolding turns ended
all-turned m [] n clean held h = subst (Known (spelled m)) (some-injective m n h) (record { held = held; bytes = λ behind. refl })
all-turned m (l ∷ ls) n clean held h =
    let k = (bind-eq-some_iff (line_turn m l) (λ p. turns p ls)).0 h in
    let one = turned m l k.0 clean.0 held k.1 in
    known_as (all-turned k.0 ls n clean.1 one.held k.2) (λ behind. one.bytes (ended ls behind))

-- The end
record Recorded (b : List ℕ) (r : Reading) : Type 0 where
  whole : spell r ≡ b
  counted : Counted r

draft-recorded : (n : Next) (r : Reading) → Held n → drafted n ≡ some r → Recorded (spelled n []) r
unfolding drafted spelled before_character before_taxon head_spelled spell spell_head most
draft-recorded datatype_line r held h = absurd (none-ne-some r h)
draft-recorded (taxa_line t) r held h = absurd (none-ne-some r h)
draft-recorded (characters_line t n) r held h = absurd (none-ne-some r h)
draft-recorded (symbols_line t n k) r held h = absurd (none-ne-some r h)
draft-recorded (name_line d) r held h = absurd (none-ne-some r h)
draft-recorded (cells_line d x) r held h = absurd (none-ne-some r h)
draft-recorded (character_line d) r held h = absurd (none-ne-some r h)
draft-recorded (label_line d) r held h = absurd (none-ne-some r h)
draft-recorded (order_line d x) r held h = absurd (none-ne-some r h)
draft-recorded (states_line d x o) r held h = absurd (none-ne-some r h)
draft-recorded (state_line d x o k s) r held h = absurd (none-ne-some r h)
draft-recorded (no_line d) r held h =
    subst (Recorded (before_character d [])) (some-injective _ r h)
    (record { whole = rw (held.0.1, held.1); counted = record { taxa = rw held.0.1 held.0.0.taxa; characters = rw held.1 held.0.0.characters } })

pub spell-unspell : (b : List ℕ) (r : Reading) → unspell b ≡ some r → (spell r ≡ b) × Sound r × Counted r
unfolding unspell shape if_sound spelled
spell-unspell b r h =
    let q = (bind-eq-some_iff (shape b) if_sound).0 h in
    let p = q.0 in
    let n = (bind-eq-some_iff (bind (lines b) (turns datatype_line)) drafted).0 q.1 in
    let ls = (bind-eq-some_iff (lines b) (turns datatype_line)).0 n.1 in
    let cut = lined b ls.0 ls.1 in
    let end = all-turned datatype_line ls.0 n.0 cut.clean tt ls.2 in
    let found = draft-recorded n.0 p end.held n.2 in
    let good = test-sound p (picked (sound p) p r q.2) in
    subst (λ x. (spell x ≡ b) × Sound x × Counted x) (picked_value (sound p) p r q.2) (found.whole ∙ end.bytes [] ∙ cut.joined, good, found.counted)
