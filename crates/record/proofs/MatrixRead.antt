-- MATRIX of a written form is read as its taxa, with the labels given before. Assumes nothing.
use Prim.Native.Nat.{ℕ, suc, ◌<◌}
use Rattle.block.proofs.SoundParts.{symbols-sound, names-sound}
use Rattle.block.specs.Blocks.{Data, State, step, is_outside, block_step, ends, inner_step, data_step, data_command, with_matrix, in_phase, declared_count, agrees, in_order, rows, matrix_reading, matrix_shape, matrix}
use Rattle.block.specs.Commands.{up_to_end, words}
use Rattle.block.specs.Format.{Format}
use Rattle.block.specs.Interleaved.{interleaved}
use Rattle.block.specs.Labels.{LabelCommand, apply_labels}
use Rattle.block.specs.Outcome.{done}
use Rattle.block.specs.Reading.{Reading}
use Rattle.block.specs.Sequential.{Shape, between, sequential, sequential_end, sequential_turn}
use Rattle.block.specs.declared.data.DataType.{DataType}
use Rattle.lexer.proofs.Basics.{eqb_same, pick_second}
use Rattle.lexer.specs.Base.{given, is_empty}
use Rattle.lexer.specs.Tokens.{Token}
use Rattle.lexer.specs.Words.{Numbered, numbered}
use Rattle.record.proofs.CommandLaws.{at, Turns, newline-turned, Reads, command-read, here, there, words_from}
use Rattle.record.proofs.DimensionsRead.{declared, in_form, sizes}
use Rattle.record.proofs.FormTokens.{key, mark, newline, rows_tokens}
use Rattle.record.proofs.FormatRead.{form_of}
use Rattle.record.proofs.LabelsRead.{labels_of}
use Rattle.record.proofs.RowsRead.{rows-passes, rows-turned}
use Rattle.record.proofs.SignLaws.{form-signs}
use Rattle.record.proofs.TypesRead.{untyped, with_characters}
use Rattle.block.specs.Sound.{Sound, gap_in}
use Rattle.block.specs.declared.dimension.Dimensions.{Dimensions}
use borrow.Author.Tests.{ne_eqb}
use lib.ListN.{length}
use mathlib.Core.Bool.{Bool, false, true≢false}
use mathlib.Core.List.{List, [], ◌∷◌}
use mathlib.Core.Option.{Option, none, some}
use mathlib.Core.Path.{◌≡◌, refl, ◌∙◌}
use native.Mathlib.Omega.{arith}

-- What the form's format says of the matrix.
module _ (symbols : List ℕ) (gaps : Bool) where
  form_type : (t : DataType) → (form_of t symbols gaps).data_type ≡ t
  unfolding form_of
  form_type DataType.Standard = refl
  form_type DataType.Dna = refl

  form-symbols : (t : DataType) → (form_of t symbols gaps).symbols ≡ symbols
  unfolding form_of
  form-symbols DataType.Standard = refl
  form-symbols DataType.Dna = refl

  form-sequential : (t : DataType) → (form_of t symbols gaps).interleave ≡ false
  unfolding form_of
  form-sequential DataType.Standard = refl
  form-sequential DataType.Dna = refl

pub some-length : {X : Type 0} (l : List X) → is_empty l ≡ false → (n : ℕ) × (length l ≡ suc n)
unfolding is_empty
some-length [] h = absurd (true≢false h)
some-length (x ∷ l) h = (length l, refl)

-- The format of the form, what its matrix is to be, and the tokens behind MATRIX.
abbrev pub written_format : Reading → Format
written_format r = form_of r.data_type r.symbols (gap_in r.taxa)

abbrev shape : Reading → ℕ → Shape
shape r i = record { taxa = length r.taxa; characters = length r.characters; format = written_format r; head = i }

abbrev pub matrix_words : Reading → List Token → List Token
matrix_words r rest = newline ∷ rows_tokens r.data_type r.symbols r.taxa (mark 59 ∷ rest)

-- The counts of a reading; and its DATA block so far, with its label commands, before and behind the matrix.
abbrev pub counts : Reading → Dimensions
counts r = sizes (length r.taxa) (length r.characters)

abbrev pub with_labels : Reading → List LabelCommand → Option Reading → Data
with_labels r ls m = declared (some (counts r)) (some (written_format r)) ls m

abbrev pub LabelledBy : Reading → List LabelCommand → Type 0
LabelledBy r ls = apply_labels (length r.symbols) (length r.characters) ls ≡ done (labels_of r.characters)

module _ (r : Reading) (s : Sound r) where
  some-cell : 0 < length r.characters
  some-cell = let (n, e) = some-length r.characters s.some_character in omega arith

  rows-read : (i j : ℕ) (rest : List Token) → rows (shape r i) (up_to_end (numbered j (matrix_words r rest))) ≡ done r.taxa
  unfolding words_from rows sequential sequential_end
  rows-read i j rest =
      let all : Turns (sequential_turn (shape r i)) (between []) (matrix_words r rest) (between r.taxa) =
      newline-turned
      (rows-turned (shape r i) r.data_type r.symbols (gap_in r.taxa) (form-signs r.data_type r.symbols (gap_in r.taxa) (symbols-sound r s)) some-cell r.taxa [] rest s.cells_sound (λ g. g) s.rows_long (names-sound r s) s.names_unlike refl)
      in
      let raw : List Numbered = up_to_end (numbered j (matrix_words r rest)) in
      pick_second (written_format r).interleave (interleaved (shape r i) raw) (sequential (shape r i) (words raw)) (form-sequential r.symbols (gap_in r.taxa) r.data_type)
      ∙ rw (all.turned j, eqb_same) refl

  matrix-value : (i j : ℕ) (rest : List Token) (ls : List LabelCommand) → LabelledBy r ls
      → matrix (with_labels r ls none) (at i (key "MATRIX")) (up_to_end (numbered j (matrix_words r rest))) ≡ done (with_characters r (untyped r.characters))
  unfolding words_from matrix matrix_shape matrix_reading declared_count agrees in_order
  matrix-value i j rest ls labels =
      let (n, taxa) = some-length r.taxa s.some_taxon in
      let some-row : 0 < length r.taxa = omega arith in
      rw (ne_eqb (length r.characters) 0 (λ e. omega (arith, some-cell)), ne_eqb (length r.taxa) 0 (λ e. omega arith), rows-read i j rest, form-symbols r.symbols (gap_in r.taxa) r.data_type, labels, form_type r.symbols (gap_in r.taxa) r.data_type)
      refl

  pub matrix-read : (b : ℕ) (ls : List LabelCommand) {t : State} {rest : List Token} → LabelledBy r ls
      → Reads (in_form b (with_labels r ls (some (with_characters r (untyped r.characters))))) rest t
      → Reads (in_form b (with_labels r ls none)) (key "MATRIX" ∷ matrix_words r rest) t
  unfolding words_from step is_outside block_step ends inner_step data_step data_command given with_matrix in_phase
  matrix-read b ls {rest = rest} labels more =
      command-read (key "MATRIX") refl refl (there newline refl (rows-passes r.data_type r.symbols r.taxa here))
      (λ i. (
        in_form b (with_labels r ls (some (with_characters r (untyped r.characters)))),
        rw (matrix-value i (suc i) rest ls labels) refl,
        more,
      ))
