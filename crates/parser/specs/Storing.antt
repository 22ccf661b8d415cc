-- MATRIX as the code reads it: what it is to be, whether its lines, order and labels may be stored, and what is promised of storing them.
use Rattle.std.specs.Prelude.{ℕ, ◌+◌, ◌≤◌, leb, ltb, length, take, Bool, true, false, ◌&&◌, List, ◌≡◌, Some, None, Ok, Err, Result, ⊤}
use Rattle.block.specs.Blocks as B
use Rattle.block.specs.Blocks.{agrees, in_order, matrix_reading, unordered}
use Rattle.block.specs.Format.{Format}
use Rattle.block.specs.Judged.{judged}
use Rattle.block.specs.Labels as L
use Rattle.block.specs.Outcome.{Outcome, done, refused, then}
use Rattle.block.specs.Reading.{Reading, Taxon}
use Rattle.block.specs.Sequential.{Shape, names}
use Rattle.block.specs.Sound.{names_differ}
use Rattle.commands.specs.MatrixHeld.{format_held, held, order_held, reading_held}
use Rattle.commands.specs.StateHeld.{Reader, data_of, names_in}
use Rattle.commands.specs.StatePlaced.{CommandPlaced}
use Rattle.commands.specs.Stepping.{Answers, Enough, Made, state_held}
use Rattle.commands.specs.WorkMap.{labels_place, map_fits, order_place}
use Rattle.commands.specs.declared.state.Data.{Data}
use Rattle.commands.specs.declared.state.Held.{Held}
use Rattle.commands.specs.declared.state.Phase.{Phase}
use Rattle.commands.specs.declared.state.State.{State}
use Rattle.labels.specs.LabelLists.{commands_held}
use Rattle.labels.specs.LabelSlots.{labels_held}
use Rattle.labels.specs.declared.labels.LabelCommand.{LabelCommand}
use Rattle.labels.specs.declared.labels.LabelCommands.{LabelCommands}
use Rattle.lexer.specs.Lexing.{longest}
use Rattle.lexer.specs.Stored.{range, word_of}
use Rattle.matrix.specs.Lines.{names_stored, stored}
use Rattle.matrix.specs.OrderHeld.{all_below}
use Rattle.std.proofs.Math.Option.{Option}
use Rattle.std.specs.Prelude as Std
use Rattle.lexer.specs.declared.Fault.{Fault}
use Rattle.block.specs.declared.data.CharacterNumber.{CharacterNumber}
use Rattle.block.specs.declared.format_options.Options.{Options}
use Rattle.lexer.specs.declared.refusal.Refusal.{Refusal}
use Rattle.block.specs.declared.data.TaxonNumber.{TaxonNumber}

-- What the code's answer about the shape means, for a format and the index of MATRIX.
unfoldable pub shape_of : Format → ℕ → Result (TaxonNumber × CharacterNumber) Refusal → Outcome Shape
shape_of f head (Ok (taxa, characters)) = done (record { taxa = taxa.0; characters = characters.0; format = f; head = head })
shape_of f head (Err n) = refused n head

-- The words of declared names, and of label commands, are among so many tokens.
unfoldable pub names_within : ℕ → Std.Option (ℕ × ℕ) → Bool
names_within count None = true
names_within count (Some (from, to)) = leb to count

unfoldable pub command_within : ℕ → LabelCommand → Bool
command_within count c = ltb c.head longest && leb c.to count

unfoldable pub commands_within : ℕ → LabelCommands → Bool
commands_within count ls = command_within count ls.first && command_within count ls.second && command_within count ls.third

-- Has the format no more symbols than the code's format can hold?
unfoldable pub symbols_few : List ℕ → List ℕ → Std.Option Options → Bool
symbols_few text front style = leb (length (format_held text front style).symbols) 74

-- May a matrix be stored behind so many tokens of a text of so many bytes, in so much work memory? Each token may begin a line; what the state names
-- is among the tokens; no other matrix is held; and the format has no more symbols than it can hold.
unfoldable pub none_held : Std.Option Held → Bool
none_held None = true
none_held (Some h) = false

unfoldable pub storable : ℕ → ℕ → ℕ → Std.Option Held → Data → Bool → Bool
storable bytes size count matrix d few =
    leb bytes longest && leb count longest
    && (leb (count + count) size && few && none_held matrix && names_within count d.names && commands_within count d.labels)

-- The matrix of a data block that was read, with so many lines, taxa and characters.
unfoldable pub held_of : Data → ℕ → ℕ → ℕ → ℕ → ℕ → Held
held_of d head to lines taxa characters =
    record {
      names = d.names;
      style = d.style;
      head = head;
      to = to;
      lines = lines;
      taxa = taxa;
      characters = characters;
      default = None;
      typed = false;
    }

-- A reading of these taxa, and of characters with these labels.
unfoldable pub reading_parts : Format → List Taxon → List L.Labelled → Reading
reading_parts f taxa cs = record { data_type = f.data_type; symbols = f.symbols; taxa = taxa; characters = unordered cs }

-- The order and the labels of a matrix, by its rows.
unfoldable pub order_labelled : Format → ℕ → ℕ → ℕ → Option (List (List ℕ)) → List L.LabelCommand → List Taxon → Outcome Reading
order_labelled f head symbols characters names labels taken =
    then (in_order head names taken) (λ taxa. then (L.apply_labels symbols characters labels) (λ cs. done (reading_parts f taxa cs)))

-- Storing the declared order of rows that are stored behind so many tokens, whatever rows have their names.
pub record OrderMade (text before after : List ℕ) (count lines taxa head : ℕ) (declared : Std.Option (ℕ × ℕ)) (r : Result ⊤ (Fault ℕ)) : Type 0 where
  pub size : length after ≡ length before
  pub kept : take (order_place count lines taxa) after ≡ take (order_place count lines taxa) before
  pub each : (taken : List Taxon) → names taken ≡ names_stored text before (stored before count taxa) → all_below count (stored before count taxa)
      → names_differ (names taken) ≡ true → agrees (names_in text (take count before) declared) taxa ≡ true
      → judged (order_held text (take count before) after (order_place count lines taxa) taxa declared taken) r ≡ in_order head (names_in text (take count before) declared) taken

-- Storing the order, then the labels.
pub record LabelsMade (text before after : List ℕ) (count lines taxa characters symbols head : ℕ) (d : Data) (r : Result ⊤ (Fault ℕ)) : Type 0 where
  pub size : length after ≡ length before
  pub kept : take (order_place count lines taxa) after ≡ take (order_place count lines taxa) before
  pub each : (f : Format) (taken : List Taxon) → names taken ≡ names_stored text before (stored before count taxa) → all_below count (stored before count taxa)
      → names_differ (names taken) ≡ true → agrees (names_in text (take count before) d.names) taxa ≡ true
      → judged (reading_parts f (order_held text (take count before) after (order_place count lines taxa) taxa d.names taken) (labels_held text after (labels_place count lines taxa) characters)) r
      ≡ order_labelled f head symbols characters (names_in text (take count before) d.names) (commands_held text (take count before) d.labels) taken

-- What the answer about a whole matrix means.
unfoldable pub rows_reading : List ℕ → List ℕ → ℕ → Data → ℕ → ℕ → ℕ → ℕ → Result ℕ (Fault ℕ) → Outcome Reading
rows_reading text work count d head to taxa characters (Ok lines) = done (reading_held text work count (held_of d head to lines taxa characters))
rows_reading text work count d head to taxa characters (Err f) = refused f.0 f.1

-- Reading a whole matrix, of a shape that agrees with the declared names.
pub record ReadingMade (text before after : List ℕ) (count head to taxa characters : ℕ) (d : Data) (r : Result ℕ (Fault ℕ)) : Type 0 where
  pub size : length after ≡ length before
  pub kept : take count after ≡ take count before
  pub read : (m : Reader) → agrees (names_in text (take count before) d.names) taxa ≡ true → 1 ≤ taxa
      → Answers (Enough text before count × CommandPlaced (take count before) head to) (rows_reading text after count d head to taxa characters r)
      (matrix_reading (data_of m text (take count before) d) (record { taxa = taxa; characters = characters; format = format_held text (take count before) d.style; head = head }) (range text (take count before) (head + 1) to))
  pub fits : (lines : ℕ) → r ≡ Ok lines → map_fits (length after) count lines taxa characters ≡ true

-- The state behind MATRIX, by what its data block held before it.
unfoldable pub matrix_step : List ℕ → List ℕ → ℕ → State → ℕ → ℕ → ℕ → Outcome B.State
matrix_step text work count s b head to =
    let d = data_of (held text work count) text (take count work) s.«data» in
    then (B.matrix d (word_of text (take count work) head) (range text (take count work) (head + 1) to)) (λ x.
    done (B.in_phase (B.in_data b (B.with_matrix d x)) (state_held text work count s)))

-- The same of a matrix whose shape is known.
unfoldable pub reading_step : List ℕ → List ℕ → ℕ → State → ℕ → ℕ → ℕ → ℕ → ℕ → Outcome B.State
reading_step text work count s b head to taxa characters =
    let d = data_of (held text work count) text (take count work) s.«data» in
    let sh : Shape = record { taxa = taxa; characters = characters; format = format_held text (take count work) s.«data».style; head = head } in
    then (matrix_reading d sh (range text (take count work) (head + 1) to)) (λ x.
    done (B.in_phase (B.in_data b (B.with_matrix d x)) (state_held text work count s)))

-- Storing it, where the count of taxa agrees with the declared names.
abbrev pub MatrixStored : (text before after : List ℕ) (count : ℕ) (s : State) (b head to taxa characters : ℕ) → Result State (Fault ℕ) → Type 0
MatrixStored text before after count s b head to taxa characters r =
    s.phase ≡ Phase.Data b → agrees (names_in text (take count before) s.«data».names) taxa ≡ true → 1 ≤ taxa
    → Made text before after count head to s r (reading_step text before count s b head to taxa characters)
