-- The parts of a reading: its rows and characters are spelled one behind another, each is good just if all are sound, and what is told of them all
-- is what the definitions say. Assumes nothing.
use Prim.Native.Nat.{ℕ, suc}
use Rattle.block.specs.Blocks.{has_ordered, is_ordered}
use Rattle.block.specs.Interleaved.{all_long}
use Rattle.block.specs.Reading.{Taxon, Character}
use Rattle.block.specs.Sequential.{names}
use Rattle.block.specs.Sound.{few_states, gap_among, gap_in, sound_cells, sound_label, sound_labels, sound_name, sound_names, sound_rows}
use Rattle.judging.proofs.RowsTold.{line-behind}
use Rattle.judging.specs.Lists.{Each, spelled_all, told_all}
use Rattle.judging.specs.Parts.{CharacterGood, RowGood, StatesGood, character_marks, join_marks, row_gap, spell_counted, spell_lines, spell_one, spell_row, spell_state}
use Rattle.judging.specs.Tells.{Marks}
use Rattle.lexer.proofs.Basics.{and_both, and_left, and_right, or_assoc, or-false}
use Rattle.record.specs.Decimal.{decimal}
use Rattle.record.specs.Form.{any_label, labelled}
use Rattle.record.specs.Spell.{escaped, line, order_word, spell_cells, spell_character, spell_characters, spell_states, spell_taxa}
use borrow.Author.Tests.{eq-eqb, eqb-true, le-leb, leb-true}
use lib.Dec.{eqb, leb}
use lib.ListN.{length}
use mathlib.Core.Bool.{Bool, true, ◌&&◌, ◌||◌}
use mathlib.Core.List.{List, [], ◌∷◌, ◌++◌, append_assoc}
use mathlib.Core.Path.{◌≡◌, refl, sym, ap, ◌∙◌}

-- Rows in front of what stands behind them.
pub taxa-spelled : (k : ℕ) (ts : List Taxon) (behind : List ℕ) → spell_taxa ts behind ≡ spelled_all (λ k. spell_row) k ts ++ behind
unfolding spell_taxa spelled_all spell_row
taxa-spelled k [] behind = refl
taxa-spelled k (t ∷ ts) behind =
    let name = escaped t.name in
    let cells = spell_cells t.cells in
    let more = spelled_all (λ k. spell_row) (suc k) ts ++ behind in
    let row : line "name=" name (line "cells=" cells more) ≡ line "name=" name (line "cells=" cells []) ++ more =
    line-behind "name=" name (line "cells=" cells more) ∙ ap (λ l. line "name=" name [] ++ l) (line-behind "cells=" cells more)
    ∙ sym (append_assoc (line "name=" name []) (line "cells=" cells []) more) ∙ ap (λ l. l ++ more) (sym (line-behind "name=" name (line "cells=" cells []))) in
    ap (λ l. line "name=" name (line "cells=" cells l)) (taxa-spelled (suc k) ts behind) ∙ row
    ∙ sym (append_assoc (line "name=" name (line "cells=" cells [])) (spelled_all (λ k. spell_row) (suc k) ts) behind)

-- Rows that are good, and the tests of all.
module _ (characters states : ℕ) where
  pub rows-names : (k : ℕ) (ts : List Taxon) → Each (λ k. RowGood characters states) k ts → sound_names (names ts) ≡ true
  unfolding sound_names names
  rows-names k [] g = refl
  rows-names k (t ∷ ts) (g, more) = and_both g.name (rows-names (suc k) ts more)

  pub rows-cells : (k : ℕ) (ts : List Taxon) → Each (λ k. RowGood characters states) k ts → sound_rows states ts ≡ true
  unfolding sound_rows
  rows-cells k [] g = refl
  rows-cells k (t ∷ ts) (g, more) = and_both g.cells (rows-cells (suc k) ts more)

  pub rows-long : (k : ℕ) (ts : List Taxon) → Each (λ k. RowGood characters states) k ts → all_long characters ts ≡ true
  unfolding all_long
  rows-long k [] g = refl
  rows-long k (t ∷ ts) (g, more) = and_both (eq-eqb (length t.cells) characters g.long) (rows-long (suc k) ts more)

  pub rows-good : (k : ℕ) (ts : List Taxon) → sound_names (names ts) ≡ true → sound_rows states ts ≡ true → all_long characters ts ≡ true
      → Each (λ k. RowGood characters states) k ts
  unfolding sound_names names sound_rows all_long
  rows-good k [] named cells long = tt
  rows-good k (t ∷ ts) named cells long =
      let here = and_left (sound_name t.name) (sound_names (names ts)) named in
      let more = and_right (sound_name t.name) (sound_names (names ts)) named in
      let sound = and_left (sound_cells states t.cells) (sound_rows states ts) cells in
      let sounds = and_right (sound_cells states t.cells) (sound_rows states ts) cells in
      let size = and_left (eqb (length t.cells) characters) (all_long characters ts) long in
      let sizes = and_right (eqb (length t.cells) characters) (all_long characters ts) long in
      (record { name = here; cells = sound; long = eqb-true (length t.cells) characters size }, rows-good (suc k) ts more sounds sizes)

-- A gap is among the cells of some row.
pub rows-gap : (before : Bool) (ts : List Taxon) → told_all row_gap ◌||◌ before ts ≡ before || gap_in ts
unfolding told_all gap_in row_gap
rows-gap before [] = sym (or-false before)
rows-gap before (t ∷ ts) = rows-gap (before || gap_among t.cells) ts ∙ sym (or_assoc before (gap_among t.cells) (gap_in ts))

-- State labels.
states-spelled : (k : ℕ) (ss : List (List ℕ)) (behind : List ℕ) → spell_states ss behind ≡ spelled_all spell_state k ss ++ behind
unfolding spell_states spelled_all spell_state
states-spelled k [] behind = refl
states-spelled k (s ∷ ss) behind =
    line-behind "state=" (escaped s) (spell_states ss behind) ∙ ap (λ l. line "state=" (escaped s) [] ++ l) (states-spelled (suc k) ss behind)
    ∙ sym (append_assoc (line "state=" (escaped s) []) (spelled_all spell_state (suc k) ss) behind)

states-names : (k : ℕ) (ss : List (List ℕ)) → Each StatesGood k ss → sound_names ss ≡ true
unfolding sound_names
states-names k [] g = refl
states-names k (s ∷ ss) (g, more) = and_both g (states-names (suc k) ss more)

states-good : (k : ℕ) (ss : List (List ℕ)) → sound_names ss ≡ true → Each StatesGood k ss
unfolding sound_names
states-good k [] g = tt
states-good k (s ∷ ss) g = (and_left (sound_name s) (sound_names ss) g, states-good (suc k) ss (and_right (sound_name s) (sound_names ss) g))

-- A line in front of bytes, in front of others.
pub line-append : (key : _) (v a behind : List ℕ) → line key v (a ++ behind) ≡ line key v a ++ behind
line-append key v a behind =
    line-behind key v (a ++ behind) ∙ sym (append_assoc (line key v []) a behind) ∙ ap (λ l. l ++ behind) (sym (line-behind key v a))

-- A character's lines, and the character, in front of what stands behind.
abbrev counted : Character → List ℕ → List ℕ
counted c behind = line "label=" (escaped c.label) (line "order=" (order_word c.ordering) (line "states=" (decimal (length c.states)) behind))

pub lines-spelled : (c : Character) (behind : List ℕ) → counted c (spelled_all spell_state 1 c.states ++ behind) ≡ spell_lines c ++ behind
unfolding spell_lines spell_counted
lines-spelled c behind =
    let states = spelled_all spell_state 1 c.states in
    let numbered = line "states=" (decimal (length c.states)) in
    let ordered = line "order=" (order_word c.ordering) in
    ap (λ l. line "label=" (escaped c.label) (ordered l)) (line-append "states=" (decimal (length c.states)) states behind)
    ∙ ap (line "label=" (escaped c.label)) (line-append "order=" (order_word c.ordering) (numbered states) behind)
    ∙ line-append "label=" (escaped c.label) (ordered (numbered states)) behind

character-spelled : (k : ℕ) (c : Character) (behind : List ℕ) → spell_character k c behind ≡ spell_one k c ++ behind
unfolding spell_character spell_one
character-spelled k c behind =
    ap (λ l. line "character=" (decimal k) (counted c l)) (states-spelled 1 c.states behind)
    ∙ ap (line "character=" (decimal k)) (lines-spelled c behind)
    ∙ line-append "character=" (decimal k) (spell_lines c) behind

pub characters-spelled : (k : ℕ) (cs : List Character) (behind : List ℕ) → spell_characters k cs behind ≡ spelled_all spell_one k cs ++ behind
unfolding spell_characters spelled_all
characters-spelled k [] behind = refl
characters-spelled k (c ∷ cs) behind =
    character-spelled k c (spell_characters (suc k) cs behind) ∙ ap (λ l. spell_one k c ++ l) (characters-spelled (suc k) cs behind)
    ∙ sym (append_assoc (spell_one k c) (spelled_all spell_one (suc k) cs) behind)

-- Characters that are good, and the tests of all.
module _ (most : ℕ) where
  pub characters-labels : (k : ℕ) (cs : List Character) → Each (λ k. CharacterGood most) k cs → sound_labels cs ≡ true
  unfolding sound_labels
  characters-labels k [] g = refl
  characters-labels k (c ∷ cs) (g, more) = and_both (and_both g.label (states-names 1 c.states g.states.each)) (characters-labels (suc k) cs more)

  pub characters-few : (k : ℕ) (cs : List Character) → Each (λ k. CharacterGood most) k cs → few_states most cs ≡ true
  unfolding few_states
  characters-few k [] g = refl
  characters-few k (c ∷ cs) (g, more) = and_both (le-leb (length c.states) most g.states.few) (characters-few (suc k) cs more)

  pub characters-good : (k : ℕ) (cs : List Character) → sound_labels cs ≡ true → few_states most cs ≡ true → Each (λ k. CharacterGood most) k cs
  unfolding sound_labels few_states
  characters-good k [] labels few = tt
  characters-good k (c ∷ cs) labels few =
      let both = and_left (sound_label c.label && sound_names c.states) (sound_labels cs) labels in
      let named = and_right (sound_label c.label) (sound_names c.states) both in
      let size = leb-true (length c.states) most (and_left (leb (length c.states) most) (few_states most cs) few) in
      let rest = characters-good (suc k) cs (and_right (sound_label c.label && sound_names c.states) (sound_labels cs) labels) (and_right (leb (length c.states) most) (few_states most cs) few) in
      (record { label = and_left (sound_label c.label) (sound_names c.states) both; states = record { few = size; each = states-good 1 c.states named } }, rest)

-- What is told of all characters.
pub characters-marks : (m : Marks) (cs : List Character)
    → told_all character_marks join_marks m cs ≡ record { labelled = m.labelled || labelled cs; ordered = m.ordered || has_ordered cs }
unfolding told_all character_marks join_marks labelled has_ordered
characters-marks m [] = rw (or-false m.labelled, or-false m.ordered) refl
characters-marks m (c ∷ cs) =
    characters-marks (record { labelled = m.labelled || any_label c; ordered = m.ordered || is_ordered c.ordering }) cs
    ∙ rw (or_assoc m.labelled (any_label c) (labelled cs), or_assoc m.ordered (is_ordered c.ordering) (has_ordered cs)) refl
