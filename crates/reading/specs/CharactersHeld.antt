-- Characters as work memory holds their labels, state labels and types, and the piece of their state labels.
use Rattle.std.specs.Prelude.{ℕ, get_or, length, Bool, List, [], ◌∷◌}
use Rattle.assumptions.specs.TypesHeld.{type_of, types_held}
use Rattle.block.specs.Blocks.{retyped, unordered}
use Rattle.block.specs.Reading.{Character}
use Rattle.block.specs.declared.model.CharacterOrdering.{CharacterOrdering}
use Rattle.labels.specs.LabelSlots.{label_slot, labels_of, states_slot}
use Rattle.lexer.specs.Base.{pick}
use Rattle.record.specs.Decimal.{decimal}
use Rattle.record.specs.Spell.{line, order_word, spell_states}
use Rattle.std.proofs.Math.Option
use Rattle.std.proofs.Math.Option.{none, some}

-- The label and the state labels that two numbers stand for, empty if none were given.
unfoldable pub slot_label : List ℕ → List ℕ → ℕ → List ℕ
slot_label text front slot = Option.get_or (label_slot text front slot) []

unfoldable pub slot_states : List ℕ → List ℕ → ℕ → List (List ℕ)
slot_states text front slot = Option.get_or (states_slot text front slot) []

-- State labels: their count, and a line for each.
unfoldable pub states_piece : List (List ℕ) → List ℕ → List ℕ
states_piece states behind = line "states=" (decimal (length states)) (spell_states states behind)

-- What stands behind the number of a character that has neither a label nor state labels.
unfoldable pub bare_piece : CharacterOrdering → List ℕ → List ℕ
bare_piece o behind = 10 ∷ line "label=" [] (line "order=" (order_word o) (states_piece [] behind))

-- Such a character, of this type.
unfoldable pub plain_character : CharacterOrdering → Character
plain_character o = record { label = []; states = []; ordering = o }

-- The type at a place of work memory, if a set was read and gave one; else this one.
unfoldable pub slot_type : List ℕ → CharacterOrdering → Bool → ℕ → CharacterOrdering
slot_type work o typed t = pick typed (Option.get_or (type_of (get_or work t 0)) o) o

-- The character that two numbers and a type stand for.
unfoldable pub slot_character : List ℕ → List ℕ → ℕ → ℕ → CharacterOrdering → Character
slot_character text front l s o = record { label = slot_label text front l; states = slot_states text front s; ordering = o }

-- So many characters, whose labels, state labels and types stand from these places on.
unfoldable pub characters_from : List ℕ → List ℕ → List ℕ → CharacterOrdering → Bool → ℕ → ℕ → ℕ → ℕ → List Character
characters_from text front work o typed l s t n =
    retyped o (Option.get_or (pick typed (some (types_held work t n)) none) []) (unordered (labels_of text front work l s n))
