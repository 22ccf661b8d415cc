-- A whole matrix, stored: its rows, then the order of its taxa and its labels. Assumes nothing.
use Rattle.std.specs.Prelude.{Ok, Err, Result, ⊤}
use Prim.Native.Nat.{ℕ, ◌+◌, ◌≤◌}
use Rattle.block.proofs.RowsDiffer.{rows-differ}
use Rattle.block.specs.Blocks.{agrees, matrix_reading, rows}
use Rattle.block.specs.Format.{Format}
use Rattle.block.specs.Judged.{judged}
use Rattle.block.specs.Outcome.{done, then}
use Rattle.block.specs.Reading.{Taxon}
use Rattle.block.specs.Sequential.{Shape, names}
use Rattle.block.specs.Sound.{names_differ}
use Rattle.commands.specs.MatrixHeld.{format_held, order_held, reading_held, rows_of, untyped_held}
use Rattle.commands.specs.StateHeld.{Reader, data_of, names_in}
use Rattle.commands.specs.Stepping.{answered, short}
use Rattle.commands.specs.WorkMap.{labels_place, map_fits, order_place}
use Rattle.commands.specs.declared.state.Data.{Data}
use Rattle.labels.specs.LabelLists.{commands_held}
use Rattle.labels.specs.LabelSlots.{labels_held}
use Rattle.lexer.specs.Stored.{range}
use Rattle.lexer.specs.Words.{Numbered}
use Rattle.lexer.specs.declared.refusal.Refusal.{Refusal}
use Rattle.matrix.proofs.StoredRows.{stored-kept}
use Rattle.matrix.specs.Lines.{stored}
use Rattle.matrix.specs.RowsHeld.{RowsTaken, rows_answer, rows_held}
use Rattle.parser.proofs.HeldLaws.{front_kept, held-untyped}
use Rattle.parser.proofs.MapEnough.{map-enough}
use Rattle.parser.proofs.StartsLaws.{range_front}
use Rattle.parser.specs.Storing.{LabelsMade, ReadingMade, held_of, order_labelled, reading_parts, rows_reading}
use Rattle.lexer.specs.declared.Fault.{Fault}
use Rattle.lexer.specs.Refusals.{fault}
use lib.ListN.{length, take}
use mathlib.Core.Bool.{true, false, true≢false}
use mathlib.Core.List.{List}
use mathlib.Core.Path.{◌≡◌, refl, sym, ap, ◌∙◌}
use native.Mathlib.Omega.{arith}

module _ (text before mid : List ℕ) (count head to taxa characters : ℕ) (d : Data) (within : to ≤ count) where
  -- the format, and what the matrix is to be
  abbrev form : Format
  form = format_held text (take count before) d.style

  abbrev whole : Shape
  whole = record { taxa = taxa; characters = characters; format = form; head = head }

  abbrev Taking : Result ℕ (Fault ℕ) → Type 0
  Taking r = RowsTaken text before mid count (head + 1) to taxa characters head form r

  abbrev raw : List Numbered
  raw = range text (take count before) (head + 1) to

  -- by the code's format and answer
  pub rows_told : (f : Format) (r q : Result ℕ (Fault ℕ)) → f ≡ form → r ≡ q → RowsTaken text before mid count (head + 1) to taxa characters head f r → Taking q
  rows_told f r q e g t = rw (g, e) at t

  pub labels-told : (f : Format) (lines symbols : ℕ) (after : List ℕ) (r : Result ⊤ (Fault ℕ)) → f ≡ form → symbols ≡ length f.symbols → LabelsMade text mid after count lines taxa characters symbols head d r
      → LabelsMade text mid after count lines taxa characters (length form.symbols) head d r
  labels-told f lines symbols after r e g l = rw (g, e) at l

  taken-rows : (r : Result ℕ (Fault ℕ)) → Taking r → rows_answer text mid count form taxa characters to r ≡ rows whole raw
  taken-rows r t = rw (range_front text before count (head + 1) to within) at t.read

  -- Rows that are refused refuse the matrix.
  pub rows-refused : (n : Refusal) (i : ℕ) → Taking (Err (fault n i)) → ReadingMade text before mid count head to taxa characters d (Err (fault n i))
  unfolding rows_answer rows_reading matrix_reading then
  rows-refused n i t =
      record {
        size = t.size;
        kept = t.kept;
        read = λ m agreed some_taxa. answered (rw (← taken-rows (Err (fault n i)) t));
        fits = λ lines e. absurd (let z : ◌≡◌ {A = ℕ} 0 1 = cc in omega arith);
      }

  module _ (lines : ℕ) (t : Taking (Ok lines)) where
    -- The map does not fit, which it does where work memory is enough.
    pub rows_short : count ≤ length before → map_fits (length mid) count lines taxa characters ≡ false → ReadingMade text before mid count head to taxa characters d (Err (fault Refusal.WorkMemoryShort 0))
    unfolding rows_reading
    rows_short room f =
        record {
          size = t.size;
          kept = t.kept;
          read = λ m agreed some_taxa. short refl (λ e. absurd (true≢false (sym (map-enough e.0 e.1 room t some_taxa) ∙ f)));
          fits = λ l e. absurd (let z : ◌≡◌ {A = ℕ} 0 1 = cc in omega arith);
        }

    -- The rows as they were taken.
    taken : List Taxon
    taken = rows_held text (take count mid) form taxa characters to (stored mid count lines)

    -- Their names differ.
    taken-differ : names_differ (names taken) ≡ true
    unfolding rows_answer taken
    taken-differ = rows-differ whole raw (rows_held text (take count mid) form taxa characters to (stored mid count lines)) (sym (taken-rows (Ok lines) t))

    -- The matrix is what its order and its labels come to behind these rows.
    behind-rows : (m : Reader) → order_labelled form head (length form.symbols) characters (data_of m text (take count before) d).taxa (data_of m text (take count before) d).labels taken ≡ matrix_reading (data_of m text (take count before) d) whole raw
    unfolding order_labelled matrix_reading then rows_answer reading_parts taken
    behind-rows m = rw (← taken-rows (Ok lines) t)

    -- The order and the labels, stored behind the rows.
    module _ (after : List ℕ) (r : Result ⊤ (Fault ℕ)) (l : LabelsMade text mid after count lines taxa characters (length form.symbols) head d r) where
      front : take count after ≡ take count before
      unfolding order_place
      front = front_kept after mid (order_place count lines taxa) l.kept count (omega arith) ∙ t.kept

      same_lines : stored after count lines ≡ stored mid count lines
      unfolding order_place
      same_lines = stored-kept after mid (order_place count lines taxa) count lines l.kept (omega arith)

      told-by : (starts : List ℕ) → take count mid ≡ starts → agrees (names_in text starts d.names) taxa ≡ true
          → judged (reading_parts form (order_held text starts after (order_place count lines taxa) taxa d.names taken) (labels_held text after (labels_place count lines taxa) characters)) r
          ≡ order_labelled form head (length form.symbols) characters (names_in text starts d.names) (commands_held text starts d.labels) taken
      unfolding taken
      told-by starts e agreed = rw (← e) (l.each form taken (t.named lines refl) (t.below lines refl) taken-differ (rw (← e) at agreed))

      -- What is held then is the matrix.
      as-held : reading_held text after count (held_of d head to lines taxa characters)
          ≡ reading_parts form (order_held text (take count before) after (order_place count lines taxa) taxa d.names taken) (labels_held text after (labels_place count lines taxa) characters)
      unfolding held_of untyped_held rows_of reading_parts taken
      as-held = held-untyped text after count (held_of d head to lines taxa characters) refl refl ∙ rw (front, same_lines, t.kept)

      pub labels-refused : (n : Refusal) (i : ℕ) → r ≡ Err (fault n i) → ReadingMade text before after count head to taxa characters d (Err (fault n i))
      unfolding rows_reading judged data_of
      labels-refused n i e =
          record {
            size = l.size ∙ t.size;
            kept = front;
            read = λ m agreed some_taxa. answered (rw e at (told-by (take count before) t.kept agreed) ∙ behind-rows m);
            fits = λ k z. absurd (let z : ◌≡◌ {A = ℕ} 0 1 = cc in omega arith);
          }

      pub labels-good : r ≡ Ok tt → map_fits (length mid) count lines taxa characters ≡ true → ReadingMade text before after count head to taxa characters d (Ok lines)
      unfolding rows_reading judged data_of
      labels-good e f =
          record {
            size = l.size ∙ t.size;
            kept = front;
            read = λ m agreed some_taxa. answered (ap done as-held ∙ rw e at (told-by (take count before) t.kept agreed) ∙ behind-rows m);
            fits = λ k z. let same : lines ≡ k = cc in rw (← same, l.size) f;
          }
