-- The tokens of a written form are read as its reading. Assumes nothing.
use Prim.Native.Nat.{ℕ, suc, ◌≤◌}
use Rattle.block.proofs.SoundParts.{symbols-sound, labels-sound}
use Rattle.block.specs.Blocks.{State, at_start, step, is_outside, block_step, ends, inner_step, data_step, data_command, labelling, labelled_by, label_step, in_phase, end_block, data_end, has_ordered, final, matrix_read, finish_in, finish}
use Rattle.block.specs.Commands.{commands}
use Rattle.block.specs.Format.{Format}
use Rattle.block.specs.Labels.{LabelCommand, apply_labels}
use Rattle.block.specs.Outcome.{done}
use Rattle.block.specs.Parse.{parse, parse_from, parse_behind}
use Rattle.block.specs.Reading.{Character, Reading}
use Rattle.block.specs.declared.data.DataType.{DataType}
use Rattle.lexer.proofs.Basics.{by-test}
use Rattle.lexer.specs.Base.{given, is_empty}
use Rattle.lexer.specs.Tokens.{Token}
use Rattle.lexer.specs.Words.{largest}
use Rattle.record.proofs.CommandLaws.{Reads, newline-read, command-read, here, words_from}
use Rattle.record.proofs.DecimalLaws.{positive-decimal}
use Rattle.record.proofs.DimensionsRead.{declared, in_form, begin-data-read, dimensions-read}
use Rattle.record.proofs.EntriesRead.{entries-read, nothing-labelled, entries-passes}
use Rattle.record.proofs.FormTokens.{key, mark, newline, entries_tokens, labels_tokens, assumptions_tokens, dimensions_tokens, format_tokens, form_tokens}
use Rattle.record.proofs.FormatRead.{format_words, format_read}
use Rattle.record.proofs.LabelsRead.{state_labels, labels_of}
use Rattle.record.proofs.MatrixRead.{written_format, counts, with_labels, LabelledBy, matrix_words, some-length, matrix-read}
use Rattle.record.proofs.TypesRead.{untyped, with_characters, behind_blocks, assumptions-read}
use Rattle.record.specs.Decimal.{decimal}
use Rattle.record.specs.Form.{labelled}
use Rattle.block.specs.Sound.{Sound, gap_in, sound_labels, few_states}
use Rattle.block.specs.declared.dimension.Dimensions.{Dimensions}
use borrow.Author.Tests.{leb-true}
use lib.ListN.{length}
use mathlib.Core.Bool.{Bool, true, false}
use mathlib.Core.List.{List, [], ◌∷◌}
use mathlib.Core.Option.{none, some}
use mathlib.Core.Path.{◌≡◌, refl, ◌∙◌}
use native.Mathlib.Omega.{arith}

-- CHARSTATELABELS, if there is a label: the command waits for MATRIX.
labels-read : (b count : ℕ) (d : Dimensions) (f : Format) (cs : List Character) {t : State} {rest : List Token} → length cs ≤ largest
    → sound_labels cs ≡ true → few_states count cs ≡ true
    → ((ls : List LabelCommand) → apply_labels count (length cs) ls ≡ done (labels_of cs) → Reads (in_form b (declared (some d) (some f) ls none)) rest t)
    → Reads (in_form b (declared (some d) (some f) [] none)) (labels_tokens cs rest) t
unfolding words_from labels_tokens step is_outside block_step ends inner_step data_step data_command labelling labelled_by label_step given in_phase
labels-read b count d f cs {rest = rest} most sound few more =
    by-test (labelled cs)
    (λ t. rw t
    (command-read (key "CHARSTATELABELS") refl refl (entries-passes true 1 cs here)
    (λ i.
    let ls : List LabelCommand = state_labels i (words_from (suc i) (entries_tokens true 1 cs (mark 59 ∷ newline ∷ rest))) ∷ [] in
    (in_form b (declared (some d) (some f) ls none), refl, newline-read (more ls (entries-read count i (suc i) cs (newline ∷ rest) most sound few t))))))
    (λ f. rw f (more [] (nothing-labelled count cs f)))

end-data-read : (b : ℕ) (d : Dimensions) (f : Format) (ls : List LabelCommand) (r : Reading) {t : State} {rest : List Token}
    → Reads (behind_blocks r false) rest t → Reads (in_form b (declared (some d) (some f) ls (some r))) (key "END" ∷ mark 59 ∷ rest) t
unfolding words_from step is_outside block_step ends end_block data_end is_empty
end-data-read b d f ls r more = command-read (key "END") refl refl here (λ i. (behind_blocks r false, refl, more))

-- FORMAT's tokens begin with its word.
format-words : (t : DataType) (symbols : List ℕ) (gaps : Bool) (behind : List Token)
    → format_tokens t symbols gaps behind ≡ key "FORMAT" ∷ format_words t symbols gaps (newline ∷ behind)
unfolding format_tokens format_words
format-words DataType.Standard symbols gaps behind = refl
format-words DataType.Dna symbols gaps behind = refl

-- What stands behind the labels, behind DIMENSIONS, and behind #NEXUS.
abbrev from_matrix : Reading → List Token
from_matrix r = key "MATRIX" ∷ matrix_words r (newline ∷ key "END" ∷ mark 59 ∷ newline ∷ assumptions_tokens r.characters)

abbrev from_format : Reading → List Token
from_format r = format_tokens r.data_type r.symbols (gap_in r.taxa) (labels_tokens r.characters (from_matrix r))

abbrev from_begin : Reading → List Token
from_begin r = newline ∷ key "BEGIN" ∷ key "DATA" ∷ mark 59 ∷ newline ∷ dimensions_tokens r (from_format r)

-- The state at the end.
abbrev last : Reading → State
last r = behind_blocks r (has_ordered r.characters)

module _ (r : Reading) (s : Sound r) where
  matrix-to-end : (b : ℕ) (ls : List LabelCommand) → LabelledBy r ls → Reads (in_form b (with_labels r ls none)) (from_matrix r) (last r)
  matrix-to-end b ls labels =
      matrix-read r s b ls labels
      (newline-read (end-data-read b (counts r) (written_format r) ls (with_characters r (untyped r.characters)) (newline-read (assumptions-read r s.some_character))))

  format-to-end : (b : ℕ) → Reads (in_form b (declared (some (counts r)) none [] none)) (from_format r) (last r)
  format-to-end b =
      rw (format-words r.data_type r.symbols (gap_in r.taxa) (labels_tokens r.characters (from_matrix r)))
      (format_read b (counts r) r.data_type r.symbols (gap_in r.taxa) (symbols-sound r s)
      (newline-read (labels-read b (length r.symbols) (counts r) (written_format r) r.characters (leb-true (length r.characters) largest s.characters_few) (labels-sound r s) s.states_few (matrix-to-end b))))

  dimensions-to-end : (b : ℕ) → Reads (in_form b (declared none none [] none)) (dimensions_tokens r (from_format r)) (last r)
  unfolding dimensions_tokens
  dimensions-to-end b =
      let (n, taxa) = some-length r.taxa s.some_taxon in
      let (m, characters) = some-length r.characters s.some_character in
      dimensions-read b n m (decimal (length r.taxa)) (decimal (length r.characters))
      (positive-decimal (length r.taxa) (omega arith) (leb-true (length r.taxa) largest s.taxa_few) ∙ taxa)
      (positive-decimal (length r.characters) (omega arith) (leb-true (length r.characters) largest s.characters_few) ∙ characters)
      (newline-read (rw (taxa, characters) at (format-to-end b)))

  form-read : Reads at_start (from_begin r) (last r)
  form-read = newline-read (begin-data-read (λ b. newline-read (dimensions-to-end b)))

pub form-parsed : (r : Reading) → Sound r → parse (form_tokens r) ≡ done r
unfolding words_from form_tokens parse parse_from parse_behind commands finish finish_in matrix_read final
form-parsed r s = rw ((form-read r s).read 1, s.dna_unordered) refl
