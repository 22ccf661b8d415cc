-- TYPESET: a name, then the type of each character, as a VECTOR or, for each type, a list of characters.
use Rattle.std.specs.Prelude.{ℕ, suc, eqb, length, replicate, Bool, true, false, List, [], ◌∷◌, ◌++◌}
use Rattle.block.specs.CharacterList.{in_range, Listed, listed, list_turn, item_end}
use Rattle.block.specs.Outcome.{Outcome, done, refused, then, fold, need}
use Rattle.block.specs.declared.kinds.Form.{Form}
use Rattle.block.specs.declared.kinds.Item.{Item}
use Rattle.block.specs.declared.kinds.Range.{Range}
use Rattle.block.specs.declared.model.CharacterOrdering.{CharacterOrdering}
use Rattle.lexer.specs.Base.{pick, bytes, byte}
use Rattle.lexer.specs.Words.{Numbered, is, punct, label}
use Rattle.lexer.specs.declared.refusal.Refusal.{Refusal}
use Rattle.std.proofs.Math.Option.{Option, none, some}

-- A type word.
unfoldable pub ordering : Numbered → Option CharacterOrdering
ordering w =
    pick (is (bytes "ORD") w) (some CharacterOrdering.Ordered)
    (pick (is (bytes "UNORD") w) (some CharacterOrdering.Unordered)
    none)

-- The type that a set gives to each character, if it gives one.
abbrev pub Types : Type 0
Types = List (Option CharacterOrdering)

-- The types with those of a range set, counted from a number on; none if one of them has a type already.
unfoldable pub typed_one : Bool → CharacterOrdering → Option CharacterOrdering → Option Types → Option Types
typed_one here o old none = none
typed_one false o old (some ts) = some (old ∷ ts)
typed_one true o none (some ts) = some (some o ∷ ts)
typed_one true o (some p) (some ts) = none

unfoldable pub typed_range : CharacterOrdering → Range → ℕ → Types → Option Types
typed_range o r k [] = some []
typed_range o r k (t ∷ ts) = let more = typed_range o r (suc k) ts in typed_one (in_range r k) o t more

unfoldable pub on_types : Option Types → (Types → Option Types) → Option Types
on_types none f = none
on_types (some us) f = f us

unfoldable pub typed : CharacterOrdering → List Range → Types → Option Types
typed o [] ts = some ts
typed o (r ∷ rs) ts = on_types (typed_range o r 1 ts) (λ us. typed o rs us)

-- Where the command is: at `*` or the name; at the name; behind it; behind `(`; at the `)` behind a form's word with an index; at `=`; in a
-- VECTOR, with its types so far and the first word that is none; at a type word; at its `:`; at the first word of its list; in its list.
pub data Typing : Type 0 where
  star : Typing
  name : Typing
  named : Typing
  form : Typing
  close : Form → ℕ → Typing
  equals : Form → Typing
  types : Types → Option ℕ → Typing
  type : Types → Typing
  colon : Types → CharacterOrdering → ℕ → Typing
  begin : Types → CharacterOrdering → ℕ → Typing
  list : Types → CharacterOrdering → ℕ → Listed → Typing

-- What a set is judged by: NCHAR and the index of the word TYPESET.
pub record Typeset : Type 0 where
  pub characters : ℕ
  pub head : ℕ

unfoldable pub name_word : Numbered → Outcome Typing
name_word w = then (need (label w) Refusal.NotName w.index) (λ n. done named)

unfoldable pub equals_word : Typeset → Form → Numbered → Outcome Typing
equals_word t Form.Standard w =
    pick (punct (byte "=") w) (done (type (replicate t.characters none))) (refused Refusal.TypeSet t.head)
equals_word t Form.Vector w = pick (punct (byte "=") w) (done (types [] none)) (refused Refusal.TypeSet t.head)

-- In a VECTOR the count is judged before the words, so the first wrong word waits for the end.
unfoldable pub vector_word : Types → Option ℕ → Numbered → Option CharacterOrdering → Typing
vector_word ts (some i) w o = types (ts ++ (o ∷ [])) (some i)
vector_word ts none w none = types (ts ++ (none ∷ [])) (some w.index)
vector_word ts none w (some o) = types (ts ++ (some o ∷ [])) none

-- The list of a type word with this index ends: the whole list first, then the characters typed twice.
unfoldable pub list_ends : Types → CharacterOrdering → ℕ → Listed → Outcome Types
list_ends ts o i l =
    then (item_end l.ranges l.item) (λ rs. need (typed o rs ts) Refusal.TypeSet i)

unfoldable pub list_word : Typeset → Types → CharacterOrdering → ℕ → Listed → Numbered → Outcome Typing
list_word t ts o i l w =
    let ended = then (list_ends ts o i l) (λ us. done (type us)) in
    let more = then (list_turn t.characters l w) (λ m. done (list ts o i m)) in
    pick (punct (byte ",") w) ended more

unfoldable pub typeset_turn : Typeset → Typing → Numbered → Outcome Typing
typeset_turn t star w = let named = name_word w in pick (punct (byte "*") w) (done name) named
typeset_turn t name w = name_word w
typeset_turn t named w = let next = equals_word t Form.Standard w in pick (punct (byte "(") w) (done form) next
typeset_turn t form w =
    pick (is (bytes "VECTOR") w) (done (close Form.Vector w.index))
    (pick (is (bytes "STANDARD") w) (done (close Form.Standard w.index))
    (refused Refusal.TypeSet w.index))
typeset_turn t (close f i) w = pick (punct (byte ")") w) (done (equals f)) (refused Refusal.TypeSet i)
typeset_turn t (equals f) w = equals_word t f w
typeset_turn t (types ts bad) w = done (vector_word ts bad w (ordering w))
typeset_turn t (type ts) w = then (need (ordering w) Refusal.TypeSet w.index) (λ o. done (colon ts o w.index))
typeset_turn t (colon ts o i) w = pick (punct (byte ":") w) (done (begin ts o i)) (refused Refusal.TypeSet i)
typeset_turn t (begin ts o i) w =
    let more = list_word t ts o i (listed [] Item.Number) w in
    pick (punct (byte ",") w) (refused Refusal.CharacterList i) more
typeset_turn t (list ts o i l) w = list_word t ts o i l w

-- A VECTOR has a type for each character.
unfoldable pub vector_end : Typeset → Types → Option ℕ → Outcome Types
vector_end t [] bad = refused Refusal.TypeSet t.head
vector_end t (o ∷ ts) none =
    pick (eqb (length (o ∷ ts)) t.characters) (done (o ∷ ts)) (refused Refusal.Count t.head)
vector_end t (o ∷ ts) (some i) =
    pick (eqb (length (o ∷ ts)) t.characters) (refused Refusal.TypeSet i) (refused Refusal.Count t.head)

unfoldable pub typeset_end : Typeset → Typing → Outcome Types
typeset_end t star = refused Refusal.TypeSet t.head
typeset_end t name = refused Refusal.TypeSet t.head
typeset_end t named = refused Refusal.TypeSet t.head
typeset_end t form = refused Refusal.TypeSet t.head
typeset_end t (close f i) = refused Refusal.TypeSet i
typeset_end t (equals f) = refused Refusal.TypeSet t.head
typeset_end t (types ts bad) = vector_end t ts bad
typeset_end t (type ts) = refused Refusal.TypeSet t.head
typeset_end t (colon ts o i) = refused Refusal.TypeSet i
typeset_end t (begin ts o i) = refused Refusal.CharacterList i
typeset_end t (list ts o i l) = list_ends ts o i l

-- The types that the words behind TYPESET give.
unfoldable pub typeset : Typeset → List Numbered → Outcome Types
typeset t ws = then (fold (typeset_turn t) star ws) (typeset_end t)
