-- The parts of a record, and what judging each tells.
use Rattle.std.specs.Prelude.{ℕ, ◌≤◌, length, Bool, true, false, ◌||◌, not, List, [], ◌∷◌, ◌++◌, ◌≡◌, Option}
use Rattle.block.specs.Blocks.{is_ordered}
use Rattle.block.specs.Reading.{Taxon, Character}
use Rattle.block.specs.Sound.{sound_cells, sound_label, sound_name, gap_among}
use Rattle.block.specs.declared.model.CharacterOrdering.{CharacterOrdering}
use Rattle.judging.specs.Lists.{Each, ListTold, spelled_all}
use Rattle.judging.specs.Tells.{Marks, Tells, behind_of, cells_of, characters_of, flag_of, number_of}
use Rattle.lexer.specs.Base.{byte, is_empty}
use Rattle.record.specs.Decimal.{decimal}
use Rattle.record.specs.Form.{any_label}
use Rattle.record.specs.Spell.{line, escaped, order_word, spell_cells}

-- The line of a row's cells: so many, each sound. A gap among them is told.
abbrev pub CellsTold : List ℕ → ℕ → ℕ → ℕ → Option (ℕ × Bool) → Type 0
CellsTold b i characters states r =
    Tells b i (λ cs. (sound_cells states cs ≡ true) × (length cs ≡ characters)) (λ cs. line "cells=" (spell_cells cs) []) gap_among (cells_of r)

-- A row: a sound name, and so many sound cells. A gap among them is told.
pub record RowGood (characters states : ℕ) (t : Taxon) : Type 0 where
  pub name : sound_name t.name ≡ true
  pub cells : sound_cells states t.cells ≡ true
  pub long : length t.cells ≡ characters

unfoldable pub spell_row : Taxon → List ℕ
spell_row t = line "name=" (escaped t.name) (line "cells=" (spell_cells t.cells) [])

unfoldable pub row_gap : Taxon → Bool
row_gap t = gap_among t.cells

abbrev pub RowTold : List ℕ → ℕ → ℕ → ℕ → Option (ℕ × Bool) → Type 0
RowTold b i characters states r = Tells b i (RowGood characters states) spell_row row_gap (cells_of r)

-- So many rows. A gap among their cells is told.
abbrev pub RowsTold : List ℕ → ℕ → ℕ → ℕ → ℕ → Option (ℕ × Bool) → Type 0
RowsTold b i n characters states r = ListTold b (λ k. RowGood characters states) (λ k. spell_row) row_gap ◌||◌ i 1 n false (cells_of r)

-- A number behind a key, ended by LF, no larger than the largest count: it is told.
abbrev pub KeyedNumber : List ℕ → ℕ → List ℕ → Option (ℕ × ℕ) → Type 0
KeyedNumber b i key r = Tells b i (λ v. v ≤ 1048576) (λ v. key ++ (decimal v ++ (byte "\n" ∷ []))) (λ v. v) (number_of r)

-- The line of a character's number.
abbrev pub NumberTold : List ℕ → ℕ → ℕ → Option ℕ → Type 0
NumberTold b i k r = Tells b i (λ (u : Unit {0}). Unit {0}) (λ u. line "character=" (decimal k) []) (λ u. tt {0}) (behind_of r)

-- The line of a label: whether there is one is told.
abbrev pub LabelTold : List ℕ → ℕ → Option (ℕ × Bool) → Type 0
LabelTold b i r = Tells b i (λ l. sound_label l ≡ true) (λ l. line "label=" (escaped l) []) (λ l. not (is_empty l)) (flag_of r)

-- The line of a type: whether it is ORD is told.
abbrev pub OrderTold : List ℕ → ℕ → Option (ℕ × Bool) → Type 0
OrderTold b i r = Tells b i (λ (o : CharacterOrdering). Unit {0}) (λ o. line "order=" (order_word o) []) is_ordered (flag_of r)

-- So many state labels.
abbrev pub StatesGood : ℕ → List ℕ → Type 0
StatesGood k s = sound_name s ≡ true

unfoldable pub spell_state : ℕ → List ℕ → List ℕ
spell_state k s = line "state=" (escaped s) []

abbrev pub StatesTold : List ℕ → ℕ → ℕ → Option ℕ → Type 0
StatesTold b i n r = ListTold b StatesGood spell_state (λ s. tt {0}) (λ u v. tt {0}) i 1 n (tt {0}) (behind_of r)

-- The state labels of a character, at most so many, and their count in front: whether there are any is told.
pub record Few (most : ℕ) (ss : List (List ℕ)) : Type 0 where
  pub few : length ss ≤ most
  pub each : Each StatesGood 1 ss

unfoldable pub spell_counted : List (List ℕ) → List ℕ
spell_counted ss = line "states=" (decimal (length ss)) (spelled_all spell_state 1 ss)

abbrev pub CountedTold : List ℕ → ℕ → ℕ → Option (ℕ × Bool) → Type 0
CountedTold b i most r = Tells b i (Few most) spell_counted (λ ss. not (is_empty ss)) (flag_of r)

-- A character's lines behind its label: its type and its state labels. Whether it has a label or a state label, and whether it is ordered, is told.
pub record Tail : Type 0 where
  pub ordering : CharacterOrdering
  pub states : List (List ℕ)

unfoldable pub spell_tail : Tail → List ℕ
spell_tail t = line "order=" (order_word t.ordering) (spell_counted t.states)

unfoldable pub tail_marks : Bool → Tail → Marks
tail_marks labelled t = record { labelled = labelled || not (is_empty t.states); ordered = is_ordered t.ordering }

abbrev pub TailTold : List ℕ → ℕ → Bool → ℕ → Option (ℕ × Bool × Bool) → Type 0
TailTold b i labelled most r = Tells b i (λ t. Few most t.states) spell_tail (tail_marks labelled) (characters_of r)

-- The character of a number: its number, and its lines behind it, a label, a type and state labels.
pub record CharacterGood (most : ℕ) (c : Character) : Type 0 where
  pub label : sound_label c.label ≡ true
  pub states : Few most c.states

unfoldable pub spell_lines : Character → List ℕ
spell_lines c = line "label=" (escaped c.label) (line "order=" (order_word c.ordering) (spell_counted c.states))

unfoldable pub spell_one : ℕ → Character → List ℕ
spell_one k c = line "character=" (decimal k) (spell_lines c)

unfoldable pub character_marks : Character → Marks
character_marks c = record { labelled = any_label c; ordered = is_ordered c.ordering }

-- Its lines behind its number, and the whole.
abbrev pub LinesTold : List ℕ → ℕ → ℕ → Option (ℕ × Bool × Bool) → Type 0
LinesTold b i most r = Tells b i (CharacterGood most) spell_lines character_marks (characters_of r)

abbrev pub CharacterTold : List ℕ → ℕ → ℕ → ℕ → Option (ℕ × Bool × Bool) → Type 0
CharacterTold b i k most r = Tells b i (CharacterGood most) (spell_one k) character_marks (characters_of r)

-- The lines behind its number of a character that has neither a label nor state labels: whether it is ordered is told.
unfoldable pub plain_character : CharacterOrdering → Character
plain_character o = record { label = []; states = []; ordering = o }

abbrev pub PlainTold : List ℕ → ℕ → Option (ℕ × Bool) → Type 0
PlainTold b i r = Tells b i (λ (o : CharacterOrdering). Unit {0}) (λ o. spell_lines (plain_character o)) is_ordered (flag_of r)

-- So many characters.
unfoldable pub join_marks : Marks → Marks → Marks
join_marks m n = record { labelled = m.labelled || n.labelled; ordered = m.ordered || n.ordered }

unfoldable pub no_marks : Marks
no_marks = record { labelled = false; ordered = false }

abbrev pub CharactersTold : List ℕ → ℕ → ℕ → ℕ → Option (ℕ × Bool × Bool) → Type 0
CharactersTold b i n most r = ListTold b (λ k. CharacterGood most) spell_one character_marks join_marks i 1 n no_marks (characters_of r)
