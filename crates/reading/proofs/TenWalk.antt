-- The walk that puts the characters, ten of them at once. Assumes nothing.
use Prim.Native.Nat.{ℕ, zero, suc, ◌+◌, ◌*◌, ◌≤◌}
use Rattle.assumptions.specs.TypesHeld.{type_of}
use Rattle.block.specs.declared.model.CharacterOrdering.{CharacterOrdering}
use Rattle.emit.specs.Puts.{Puts}
use Rattle.lexer.proofs.Basics.{and_left, and_right}
use Rattle.lexer.specs.Base.{pick}
use Rattle.reading.proofs.CharacterPuts.{character-plain}
use Rattle.reading.proofs.CharacterWalk.{Spelling, characters_behind, turned}
use Rattle.reading.proofs.PutWalks.{putting-turn}
use Rattle.reading.proofs.TenPlain.{TenTold}
use Rattle.reading.specs.CharactersHeld.{plain_character, slot_type}
use Rattle.reading.specs.TenPlain.{all_same}
use Rattle.record.specs.Spell.{spell_character, spell_characters}
use borrow.Author.Tests.{eqb-true}
use lib.Dec.{eqb}
use lib.ListN.{get_or, replicate}
use mathlib.Core.Bool.{Bool, true, false, ◌||◌, not}
use mathlib.Core.List.{List}
use mathlib.Core.Option
use mathlib.Core.Path.{◌≡◌, refl, ap, ◌∙◌}
use native.Mathlib.Omega.{arith}

-- The first of some numbers that are all this one, and those behind it.
module _ (work : List ℕ) (number at count : ℕ) where
  same_first : all_same work number at (suc count) ≡ true → get_or work at 0 ≡ number
  unfolding all_same
  same_first t = eqb-true (get_or work at 0) number (and_left (eqb (get_or work at 0) number) (all_same work number (suc at) count) t)

  same_rest : (next : ℕ) → next ≡ suc at → all_same work number at (suc count) ≡ true → all_same work number next count ≡ true
  unfolding all_same
  same_rest next e t = rw e (and_right (eqb (get_or work at 0) number) (all_same work number (suc at) count) t)

module _ (text front work : List ℕ) (at characters : ℕ) (typed : Bool) (o : CharacterOrdering) (number : ℕ) where
  -- The type that a number stands for, if a set was read, and the first of some types that are all this one.
  abbrev type : CharacterOrdering
  type = pick typed (Option.get_or (type_of number) o) o

  type-first : (typed : Bool) (t count : ℕ) → not typed || all_same work number t (suc count) ≡ true → slot_type work o typed t ≡ pick typed (Option.get_or (type_of number) o) o
  unfolding slot_type pick
  type-first true t count h = rw (same_first work number t count h) refl
  type-first false t count h = refl

  type-rest : (typed : Bool) (t count next : ℕ) → next ≡ suc t → not typed || all_same work number t (suc count) ≡ true → not typed || all_same work number next count ≡ true
  type-rest true t count next e h = same_rest work number t count next e h
  type-rest false t count next e h = refl

  abbrev rest : ℕ → List ℕ → List ℕ
  rest = characters_behind text front work at characters typed o

  -- Some characters of that type, and those behind them.
  plain-some : (count k : ℕ) → k + count ≤ characters → all_same work 0 (at + k) count ≡ true → all_same work 0 (at + characters + k) count ≡ true
      → not typed || all_same work number (at + 2 * characters + k) count ≡ true
      → (behind : List ℕ)
      → rest k behind ≡ spell_characters (k + 1) (replicate count (plain_character type)) (rest (k + count) behind)
  unfolding spell_characters
  plain-some zero k h labels states types behind = let e : k + 0 ≡ k = omega arith in rw e refl
  plain-some (suc count) k h labels states types behind =
      let end : k + suc count ≡ k + 1 + count = omega arith in
      let next : suc (k + 1) ≡ k + 1 + 1 = omega arith in
      let one : slot_type work o typed (at + 2 * characters + k) ≡ type = type-first typed (at + 2 * characters + k) count types in
      let more =
      plain-some count (k + 1) (omega arith)
      (same_rest work 0 (at + k) count (at + (k + 1)) (omega arith) labels)
      (same_rest work 0 (at + characters + k) count (at + characters + (k + 1)) (omega arith) states)
      (type-rest typed (at + 2 * characters + k) count (at + 2 * characters + (k + 1)) (omega arith) types)
      behind in
      turned text front work at characters typed o k (omega arith) behind
      ∙ rw (same_first work 0 (at + k) count labels, same_first work 0 (at + characters + k) count states, one, ← character-plain text front 0 0 type refl, end, next)
      (ap (spell_character (k + 1) (plain_character type)) more)

-- Ten of them are put.
module _ (text front work : List ℕ) (at characters : ℕ) (typed : Bool) (o : CharacterOrdering) (before : List ℕ) (n : ℕ) (whole : List ℕ → List ℕ) where
  pub spelling-ten : {buffer after : List ℕ} {m next k : ℕ} {type : CharacterOrdering} → Spelling text front work at characters typed o before n whole buffer m k
      → TenTold work at characters typed k
      → type ≡ slot_type work o typed (at + 2 * characters + k)
      → Puts buffer m (spell_characters (k + 1) (replicate 10 (plain_character type))) after next
      → Spelling text front work at characters typed o before n whole after next (k + 10)
  unfolding slot_type
  spelling-ten {k = k} w t e p =
      let number = get_or work (at + 2 * characters + k) 0 in
      record {
        below = t.within;
        walk = putting-turn w.walk (rw e at p) (plain-some text front work at characters typed o number 10 k t.within t.labels t.states t.types);
      }
