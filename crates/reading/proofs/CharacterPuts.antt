-- The lines of a character, by the numbers that work memory holds for its label and its state labels, and by its type. Assumes nothing.
use Prim.Native.Nat.{ℕ, suc, ◌+◌, ◌-◌, ◌/◌, ◌%◌, ◌≤◌, min}
use Rattle.assumptions.specs.TypesHeld.{type_of}
use Rattle.block.specs.declared.model.CharacterOrdering.{CharacterOrdering}
use Rattle.emit.proofs.PutLaws.{puts-out}
use Rattle.emit.specs.Puts.{Puts, last_place}
use Rattle.labels.specs.LabelSlots.{label_slot, states_slot}
use Rattle.lexer.proofs.Basics.{and_left, and_right}
use Rattle.lexer.specs.Base.{bytes, pick}
use Rattle.reading.proofs.FewNames.{few_names}
use Rattle.reading.specs.CharactersHeld.{bare_piece, plain_character, slot_character, slot_label, slot_states, slot_type, states_piece}
use Rattle.reading.specs.Pieces.{name_piece}
use Rattle.record.specs.Decimal.{decimal, decimal_from, digit}
use Rattle.record.specs.Spell.{escaped, line, order_word, spell_character, spell_states}
use borrow.Author.Tests.{eqb-true}
use lib.Dec.{eqb}
use lib.ListN.{get_or, length, length-append}
use mathlib.Core.Bool.{Bool, false, true, ◌&&◌}
use mathlib.Core.List.{List, [], ◌∷◌, ◌++◌}
use mathlib.Core.Path.{◌≡◌, refl, sym, ap, ◌∙◌}
use native.Mathlib.Omega.{arith}

module _ (text front : List ℕ) where
  module _ (slot : ℕ) (behind : List ℕ) where
    -- The label: there is none, or it is that of a word.
    pub label-none : slot ≡ 0 → bytes "label=\n" ++ behind ≡ line "label=" (escaped (slot_label text front slot)) behind
    unfolding bytes line slot_label label_slot escaped
    label-none e = rw e

    -- State labels: there are none, or so many from a word on.
    pub states-none : slot ≡ 0 → bytes "states=0\n" ++ behind ≡ states_piece (slot_states text front slot) behind
    unfolding bytes line states_piece slot_states states_slot decimal decimal_from digit spell_states
    states-none e = rw e

  label-next : (i : ℕ) (behind : List ℕ) → bytes "label=" ++ name_piece text front i (10 ∷ behind) ≡ line "label=" (escaped (slot_label text front (suc i))) behind
  unfolding line name_piece slot_label label_slot
  label-next i behind = refl

  states-next : (v count : ℕ) (behind : List ℕ) → count ≡ length (few_names text front (v % 128) (v / 128))
      → bytes "states=" ++ (decimal count ++ (10 ∷ spell_states (few_names text front (v % 128) (v / 128)) behind)) ≡ states_piece (slot_states text front (suc v)) behind
  unfolding line states_piece slot_states states_slot
  states-next v count behind e = rw e

  module _ (slot : ℕ) (h : slot ≡ 0 → ⊥) where
    next : suc (slot - 1) ≡ slot
    next = omega (arith, h)

    pub label-some : (behind : List ℕ) → bytes "label=" ++ name_piece text front (slot - 1) (10 ∷ behind) ≡ line "label=" (escaped (slot_label text front slot)) behind
    label-some behind = rw next at (label-next (slot - 1) behind)

    pub states-some : (count : ℕ) → count ≡ length (few_names text front ((slot - 1) % 128) ((slot - 1) / 128)) → (behind : List ℕ)
        → bytes "states=" ++ (decimal count ++ (10 ∷ spell_states (few_names text front ((slot - 1) % 128) ((slot - 1) / 128)) behind)) ≡ states_piece (slot_states text front slot) behind
    states-some count e behind = rw next at (states-next (slot - 1) count behind e)

  -- All its lines.
  pub character-lines : (k l s : ℕ) (o : CharacterOrdering) (behind : List ℕ)
      → bytes "character=" ++ (decimal k ++ (10 ∷ line "label=" (escaped (slot_label text front l)) (line "order=" (order_word o) (states_piece (slot_states text front s) behind))))
      ≡ spell_character k (slot_character text front l s o) behind
  unfolding line states_piece spell_character slot_character
  character-lines k l s o behind = refl

  -- One that has neither a label nor state labels.
  pub character-plain : (l s : ℕ) (o : CharacterOrdering) → eqb l 0 && eqb s 0 ≡ true → plain_character o ≡ slot_character text front l s o
  unfolding plain_character slot_character slot_label label_slot slot_states states_slot
  character-plain l s o none =
      let no_label = eqb-true l 0 (and_left (eqb l 0) (eqb s 0) none) in
      let no-states = eqb-true s 0 (and_right (eqb l 0) (eqb s 0) none) in
      rw (no_label, no-states) refl

-- The line of a type.
pub order-unordered : (o : CharacterOrdering) (behind : List ℕ) → o ≡ CharacterOrdering.Unordered → bytes "order=UNORD\n" ++ behind ≡ line "order=" (order_word o) behind
unfolding bytes line order_word
order-unordered o behind e = rw e

pub order-ordered : (o : CharacterOrdering) (behind : List ℕ) → o ≡ CharacterOrdering.Ordered → bytes "order=ORD\n" ++ behind ≡ line "order=" (order_word o) behind
unfolding bytes line order_word
order-ordered o behind e = rw e

-- A character that has neither a label nor state labels: what stands behind its number, by its type; all of it; and how many bytes it has.
pub bare-unordered : (o : CharacterOrdering) (behind : List ℕ) → o ≡ CharacterOrdering.Unordered → bytes "\nlabel=\norder=" ++ (bytes "UN" ++ (bytes "ORD\nstates=0\n" ++ behind)) ≡ bare_piece o behind
unfolding bytes line order_word bare_piece states_piece decimal decimal_from digit spell_states
bare-unordered o behind e = rw e

pub bare-ordered : (o : CharacterOrdering) (behind : List ℕ) → o ≡ CharacterOrdering.Ordered → bytes "\nlabel=\norder=" ++ (bytes "ORD\nstates=0\n" ++ behind) ≡ bare_piece o behind
unfolding bytes line order_word bare_piece states_piece decimal decimal_from digit spell_states
bare-ordered o behind e = rw e

pub plain-spelled : (number : ℕ) (o : CharacterOrdering) (behind : List ℕ) → bytes "character=" ++ (decimal number ++ bare_piece o behind) ≡ spell_character number (plain_character o) behind
unfolding line bare_piece states_piece spell_character plain_character escaped
plain-spelled number o behind = refl

bare-long : (o : CharacterOrdering) (size : ℕ) (behind : List ℕ) → length (bare_piece o behind) ≡ size + length behind → (number : ℕ)
    → length (spell_character number (plain_character o) behind) ≡ length (decimal number) + (10 + size) + length behind
unfolding bytes
bare-long o size behind e number = sym (ap length (plain-spelled number o behind)) ∙ omega (arith, e, length-append (decimal number) (bare_piece o behind))

pub plain-unordered : (number : ℕ) (o : CharacterOrdering) → o ≡ CharacterOrdering.Unordered → (behind : List ℕ)
    → length (spell_character number (plain_character o) behind) ≡ length (decimal number) + 39 + length behind
unfolding bytes
plain-unordered number o e behind = bare-long o 29 behind (sym (ap length (bare-unordered o behind e)) ∙ omega arith) number

pub plain-ordered : (number : ℕ) (o : CharacterOrdering) → o ≡ CharacterOrdering.Ordered → (behind : List ℕ)
    → length (spell_character number (plain_character o) behind) ≡ length (decimal number) + 37 + length behind
unfolding bytes
plain-ordered number o e behind = bare-long o 27 behind (sym (ap length (bare-ordered o behind e)) ∙ omega arith) number

-- Two that have as many digits are as long.
pub plain-long : (number like : ℕ) (o : CharacterOrdering) (behind : List ℕ) → length (decimal number) ≡ length (decimal like)
    → length (spell_character number (plain_character o) behind) ≡ length (spell_character like (plain_character o) []) + length behind
plain-long number like CharacterOrdering.Ordered behind e =
    omega (arith, e, plain-ordered number CharacterOrdering.Ordered refl behind, plain-ordered like CharacterOrdering.Ordered refl [])
plain-long number like CharacterOrdering.Unordered behind e =
    omega (arith, e, plain-unordered number CharacterOrdering.Unordered refl behind, plain-unordered like CharacterOrdering.Unordered refl [])

-- A piece behind the buffer's end is only counted.
pub counted-past : (buffer : List ℕ) (n next size : ℕ) (p : List ℕ → List ℕ) → length buffer ≤ n → ((behind : List ℕ) → length (p behind) ≡ size + length behind)
    → (next ≡ min last_place (n + size)) × (n ≤ next) → Puts buffer n p buffer next
unfolding last_place
counted-past buffer n next size p h long e =
    record {
      written = λ behind. puts-out buffer n (p behind) h ∙ sym (puts-out buffer next behind (omega arith));
      reached = λ behind. omega (arith, long behind, e.0);
      kept = refl;
    }

-- Such a character, by the test for it: it was put whole, or nothing of it has room.
module _ (text front : List ℕ) (k l s : ℕ) (o : CharacterOrdering) (test : Bool) (both : (eqb l 0 && eqb s 0) && test ≡ true) where
  this : plain_character o ≡ slot_character text front l s o
  this = character-plain text front l s o (and_left (eqb l 0 && eqb s 0) test both)

  pub plain-put : {a b : List ℕ} {n m : ℕ} → Puts a n (spell_character k (plain_character o)) b m → Puts a n (spell_character k (slot_character text front l s o)) b m
  plain-put p = rw this at p

  pub plain-past : (buffer : List ℕ) (n next size : ℕ) → length buffer ≤ n → size ≡ length (spell_character k (plain_character o) [])
      → (next ≡ min last_place (n + size)) × (n ≤ next) → Puts buffer n (spell_character k (slot_character text front l s o)) buffer next
  plain-past buffer n next size h e p = plain-put (counted-past buffer n next size (spell_character k (plain_character o)) h (λ behind. rw e (plain-long k k o behind refl)) p)

-- The type at a place: there is no set, it gives none, or one of two.
module _ (work : List ℕ) (o : CharacterOrdering) (typed : Bool) (t : ℕ) where
  pub type-untyped : typed ≡ false → o ≡ slot_type work o typed t
  unfolding slot_type pick
  type-untyped f = rw f

  module _ (set : typed ≡ true) (number : ℕ) (is : number ≡ get_or work t 0) where
    pub type-none : number ≡ 0 → o ≡ slot_type work o typed t
    unfolding slot_type pick type_of
    type-none e = rw (set, ← is, e)

    pub type-one : number ≡ 1 → CharacterOrdering.Unordered ≡ slot_type work o typed t
    unfolding slot_type pick type_of
    type-one e = rw (set, ← is, e)

    pub type-two : (number ≡ 0 → ⊥) → (number ≡ 1 → ⊥) → CharacterOrdering.Ordered ≡ slot_type work o typed t
    unfolding slot_type pick type_of
    type-two z s = let more : number ≡ suc (suc (number - 2)) = omega (arith, z, s) in rw (set, ← is, more)
