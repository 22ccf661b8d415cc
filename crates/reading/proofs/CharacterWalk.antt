-- The walk that puts the characters one after another, as work memory holds them. Assumes nothing.
use Prim.Native.Nat.{ℕ, suc, ◌+◌, ◌*◌, ◌-◌, ◌≤◌, ◌<◌}
use Rattle.assumptions.specs.TypesHeld.{types_held}
use Rattle.lexer.specs.Base.{option_of, pick}
use Rattle.block.specs.Blocks.{retyped, unordered, with_types}
use Rattle.block.specs.declared.model.CharacterOrdering.{CharacterOrdering}
use Rattle.commands.specs.MatrixHeld.{reading_held, types_at, untyped_held}
use Rattle.commands.specs.WorkMap.{labels_place, map_fits, types_place}
use Rattle.commands.specs.declared.state.Held.{Held}
use Rattle.emit.specs.Puts.{Puts}
use Rattle.labels.specs.LabelSlots.{labels_held, labels_of, slots}
use Rattle.parser.proofs.MapFits.{fitting}
use Rattle.reading.proofs.PutWalks.{Putting, putting-end, putting-start, putting-turn}
use Rattle.reading.specs.CharactersHeld.{characters_from, slot_character, slot_label, slot_states, slot_type}
use Rattle.record.specs.Spell.{spell_character, spell_characters}
use lib.ListN.{get_or, length, take}
use mathlib.Core.Bool.{Bool, false, true}
use mathlib.Core.List.{List, [], ◌∷◌}
use mathlib.Core.Option
use mathlib.Core.Path.{◌≡◌, refl}
use native.Mathlib.Omega.{arith}

module _ (text front work : List ℕ) (o : CharacterOrdering) where
  characters-next : (typed : Bool) (l s t n : ℕ)
      → characters_from text front work o typed l s t (suc n)
      ≡ slot_character text front (get_or work l 0) (get_or work s 0) (slot_type work o typed t) ∷ characters_from text front work o typed (suc l) (suc s) (suc t) n
  unfolding characters_from slot_character slot_label slot_states slot_type labels_of slots types_held retyped unordered pick
  characters-next true l s t n = refl
  characters-next false l s t n = refl

  characters-none : (typed : Bool) (l s t : ℕ) → characters_from text front work o typed l s t 0 ≡ []
  unfolding characters_from labels_of retyped unordered
  characters-none typed l s t = refl

-- The characters from one on, of so many, whose labels stand from a place on.
module _ (text front work : List ℕ) (at characters : ℕ) (typed : Bool) (o : CharacterOrdering) where
  unfoldable pub characters_behind : ℕ → List ℕ → List ℕ
  characters_behind k =
      spell_characters (k + 1) (characters_from text front work o typed (at + k) (at + characters + k) (at + 2 * characters + k) (characters - k))

  -- The character behind so many, and those behind it.
  pub turned : (k : ℕ) → k < characters → (behind : List ℕ)
      → characters_behind k behind
      ≡ spell_character (k + 1) (slot_character text front (get_or work (at + k) 0) (get_or work (at + characters + k) 0) (slot_type work o typed (at + 2 * characters + k)))
      (characters_behind (k + 1) behind)
  unfolding characters_behind spell_characters
  turned k h behind =
      let l : suc (at + k) ≡ at + (k + 1) = omega arith in
      let s : suc (at + characters + k) ≡ at + characters + (k + 1) = omega arith in
      let t : suc (at + 2 * characters + k) ≡ at + 2 * characters + (k + 1) = omega arith in
      let number : suc (k + 1) ≡ k + 1 + 1 = omega arith in
      let left : characters - k ≡ suc (characters - (k + 1)) = omega arith in
      rw (left, characters-next text front work o typed (at + k) (at + characters + k) (at + 2 * characters + k) (characters - (k + 1)), l, s, t, number) refl

  -- What was put so far and the characters from this one on are the whole.
  pub record Spelling (before : List ℕ) (n : ℕ) (whole : List ℕ → List ℕ) (buffer : List ℕ) (m k : ℕ) : Type 0 where
    pub below : k ≤ characters
    pub walk : Putting before n whole buffer m (characters_behind k)

  pub spelling-start : (before : List ℕ) (n : ℕ)
      → Spelling before n (spell_characters 1 (characters_from text front work o typed at (at + characters) (at + 2 * characters) characters)) before n 0
  unfolding characters_behind
  spelling-start before n =
      let l : at + 0 ≡ at = omega arith in
      let s : at + characters + 0 ≡ at + characters = omega arith in
      let t : at + 2 * characters + 0 ≡ at + 2 * characters = omega arith in
      let all : characters - 0 ≡ characters = omega arith in
      record { below = omega arith; walk = rw (s, t, l, all) putting-start }

  module _ (before : List ℕ) (n : ℕ) (whole : List ℕ → List ℕ) (buffer : List ℕ) (m k : ℕ) (w : Spelling before n whole buffer m k) where
    pub spelling-turn : (label states : ℕ) (ordering : CharacterOrdering) (after : List ℕ) (next : ℕ) → k < characters
        → label ≡ get_or work (at + k) 0 → states ≡ get_or work (at + characters + k) 0 → ordering ≡ slot_type work o typed (at + 2 * characters + k)
        → Puts buffer m (spell_character (k + 1) (slot_character text front label states ordering)) after next → Spelling before n whole after next (k + 1)
    spelling-turn label states ordering after next h l s t p = record { below = omega arith; walk = putting-turn w.walk p (λ behind. rw (l, s, t) (turned k h behind)) }

    pub spelling-end : characters ≤ k → Puts before n whole buffer m
    unfolding characters_behind spell_characters
    spelling-end h =
        let none : characters - k ≡ 0 = omega arith in
        putting-end w.walk (λ behind. rw (none, characters-none text front work o typed (at + k) (at + characters + k) (at + 2 * characters + k)) refl)

-- The characters of a matrix that work memory holds, and the room for all that it holds of them.
module _ (work : List ℕ) (count : ℕ) (h : Held) (at : ℕ) (e : at ≡ labels_place count h.lines h.taxa) where
  pub characters-held : (text : List ℕ) (o : CharacterOrdering) → o ≡ Option.get_or (option_of h.default) CharacterOrdering.Unordered
      → characters_from text (take at work) work o h.typed at (at + h.characters) (at + 2 * h.characters) h.characters ≡ (reading_held text work count h).characters
  unfolding characters_from reading_held with_types untyped_held labels_held types_at labels_place types_place
  characters-held text o d = rw (d, e) refl

  pub characters-room : map_fits (length work) count h.lines h.taxa h.characters ≡ true → at + 3 * h.characters ≤ length work
  unfolding labels_place
  characters-room fits = omega (arith, (fitting (length work) count h.lines h.taxa h.characters fits).types)
