-- The lines of a record's characters, found where they stand, and what is put for them.
use Rattle.std.specs.Prelude.{ℕ, ◌+◌, ◌≤◌, length, drop, get_or, Bool, false, List, [], ◌∷◌, ◌++◌, ◌≡◌}
use Rattle.block.specs.Blocks.{has_ordered}
use Rattle.block.specs.Reading.{Character}
use Rattle.block.specs.declared.model.CharacterOrdering.{CharacterOrdering}
use Rattle.emit.specs.Puts.{Puts}
use Rattle.judging.specs.declared.Shape.{Shape}
use Rattle.lexer.specs.Base.{among, byte, bytes}
use Rattle.record.specs.Decimal.{decimal}
use Rattle.record.specs.Form.{any_label, comma, labelled, form_assumptions, form_entries, form_entry, form_label, form_labels, form_types}
use Rattle.record.specs.Spell.{escaped, order_word, spell_character, spell_characters, spell_states}
use Rattle.writing.specs.declared.Putting.{Putting}

-- What stands behind the key of a character's count of state labels, of its type, and of its label.
unfoldable pub count_on : Character → List ℕ → List ℕ
count_on c behind = decimal (length c.states) ++ (byte "\n" ∷ spell_states c.states behind)

unfoldable pub order_on : Character → List ℕ → List ℕ
order_on c behind = order_word c.ordering ++ (byte "\n" ∷ (bytes "states=" ++ count_on c behind))

unfoldable pub label_on : Character → List ℕ → List ℕ
label_on c behind = escaped c.label ++ (byte "\n" ∷ (bytes "order=" ++ order_on c behind))

-- No line of a state label begins here.
abbrev pub NoState : List ℕ → Type 0
NoState behind = get_or behind 0 0 ≡ byte "s" → ⊥

-- The place behind the LF that ends the line at a place.
pub record LineBehind (b : List ℕ) (at r : ℕ) : Type 0 where
  pub found : (line rest : List ℕ) → among (byte "\n") line ≡ false → drop at b ≡ line ++ (byte "\n" ∷ rest) → drop r b ≡ rest

-- Places in the lines of a character: its label, its type, its state labels, and what stands behind it, each found from one in front of it.
pub record LabelFound (b : List ℕ) (at r : ℕ) : Type 0 where
  pub found : (k : ℕ) (c : Character) (behind : List ℕ) → drop at b ≡ spell_character k c behind → drop r b ≡ label_on c behind

pub record OrderFound (b : List ℕ) (at r : ℕ) : Type 0 where
  pub found : (c : Character) (behind : List ℕ) → drop at b ≡ label_on c behind → drop r b ≡ order_on c behind

pub record StatesFound (b : List ℕ) (at r : ℕ) : Type 0 where
  pub found : (c : Character) (behind : List ℕ) → drop at b ≡ order_on c behind → drop r b ≡ spell_states c.states behind

pub record NextFound (b : List ℕ) (at r : ℕ) : Type 0 where
  pub found : (states : List (List ℕ)) (behind : List ℕ) → NoState behind → drop at b ≡ spell_states states behind → drop r b ≡ behind

-- A character's label and its state labels stand at these places.
pub record Stands (b : List ℕ) (label states : ℕ) (c : Character) (behind : List ℕ) : Type 0 where
  pub label_here : drop label b ≡ label_on c behind
  pub states_here : drop states b ≡ spell_states c.states behind
  pub no_more : NoState behind

-- What is told is whether a character that stands there has a label or state labels.
pub record LabelsTold (b : List ℕ) (label states : ℕ) (r : Bool) : Type 0 where
  pub told : (c : Character) (behind : List ℕ) → Stands b label states c behind → r ≡ any_label c

-- Of a character of a type that has neither a label nor state labels: how many bytes it has from the place of its label on, and the letter with which the
-- word of its type begins.
abbrev pub plain_size : CharacterOrdering → ℕ
plain_size CharacterOrdering.Unordered = 22
plain_size CharacterOrdering.Ordered = 20

abbrev pub first_letter : CharacterOrdering → ℕ
first_letter CharacterOrdering.Unordered = byte "U"
first_letter CharacterOrdering.Ordered = byte "O"

-- A character whose label would begin at a place has none, nor state labels, and is of this type; its lines end so many bytes behind that place.
pub record PlainAt (b : List ℕ) (label : ℕ) (o : CharacterOrdering) : Type 0 where
  pub inside : label + plain_size o ≤ length b
  pub bare : (c : Character) (behind : List ℕ) → drop label b ≡ label_on c behind → any_label c ≡ false
  pub typed : (c : Character) (behind : List ℕ) → drop label b ≡ label_on c behind → c.ordering ≡ o
  pub next : (c : Character) (behind : List ℕ) → drop label b ≡ label_on c behind → drop (label + plain_size o) b ≡ behind

-- A piece was put, and this stands at the next place of the record.
pub record PutOn (b behind before : List ℕ) (n : ℕ) (piece : List ℕ → List ℕ) (after : List ℕ) (r : Putting) : Type 0 where
  pub next : drop r.at b ≡ behind
  pub put : Puts before n piece after r.n

-- The label that stands at a place is put, the state labels, an entry, a type.
pub record LabelPut (b : List ℕ) (at : ℕ) (before : List ℕ) (n : ℕ) (after : List ℕ) (next : ℕ) : Type 0 where
  pub put : (label rest : List ℕ) → drop at b ≡ escaped label ++ (byte "\n" ∷ rest) → Puts before n (form_label label) after next

pub record StatesPut (piece : List (List ℕ) → List ℕ → List ℕ) (b : List ℕ) (at : ℕ) (before : List ℕ) (n : ℕ) (after : List ℕ) (r : Putting) : Type 0 where
  pub put : (states : List (List ℕ)) (behind : List ℕ) → NoState behind → drop at b ≡ spell_states states behind
      → PutOn b behind before n (piece states) after r

pub record EntryPut (first : Bool) (number : ℕ) (b : List ℕ) (label states : ℕ) (before : List ℕ) (n : ℕ) (after : List ℕ) (r : Putting) : Type 0 where
  pub put : (c : Character) (behind : List ℕ) → Stands b label states c behind
      → PutOn b behind before n (λ rest. comma first (form_entry number c rest)) after r

pub record TypePut (b : List ℕ) (at : ℕ) (before : List ℕ) (n : ℕ) (after : List ℕ) (next : ℕ) : Type 0 where
  pub put : (c : Character) (behind : List ℕ) → drop at b ≡ order_on c behind
      → Puts before n (λ rest. byte " " ∷ order_word c.ordering ++ rest) after next

-- Where so many characters stand, the first of them with this number, their entries are put, or their types.
pub record EntriesPut (first : Bool) (b : List ℕ) (at number count : ℕ) (before : List ℕ) (n : ℕ) (after : List ℕ) (next : ℕ) : Type 0 where
  pub put : (cs : List Character) → drop at b ≡ spell_characters number cs [] → count ≡ length cs → Puts before n (form_entries first number cs) after next

pub record TypesPut (b : List ℕ) (at number count : ℕ) (before : List ℕ) (n : ℕ) (after : List ℕ) (next : ℕ) : Type 0 where
  pub put : (cs : List Character) → drop at b ≡ spell_characters number cs [] → count ≡ length cs → Puts before n (form_types cs) after next

-- Where the characters of a shape stand, the command of their labels is put, and the block of their types.
abbrev pub LabelsPut : List ℕ → Shape → List ℕ → ℕ → List ℕ → ℕ → Type 0
LabelsPut b s before n after next =
    (cs : List Character) → drop s.lines b ≡ spell_characters 1 cs [] → s.characters.0 ≡ length cs → s.labelled ≡ labelled cs
    → Puts before n (form_labels cs) after next

abbrev pub AssumptionsPut : List ℕ → Shape → List ℕ → ℕ → List ℕ → ℕ → Type 0
AssumptionsPut b s before n after next =
    (cs : List Character) → drop s.lines b ≡ spell_characters 1 cs [] → s.characters.0 ≡ length cs → s.ordered ≡ has_ordered cs
    → Puts before n (form_assumptions cs) after next
