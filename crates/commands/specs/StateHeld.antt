-- What the code's state of reading means.
use Rattle.std.specs.Prelude.{ℕ, length, Bool, List, [], ◌≡◌, Some, None, Ok, Err, Result}
use Rattle.lexer.specs.Base.{option_of, pick}
use Rattle.block.specs.Blocks as B
use Rattle.block.specs.Commands.{words}
use Rattle.block.specs.Format as F
use Rattle.block.specs.Formats.{options_of}
use Rattle.block.specs.NamesHeld.{names_of}
use Rattle.block.specs.Outcome.{Outcome, done, refused}
use Rattle.block.specs.Reading.{Reading}
use Rattle.block.specs.Typeset.{Types}
use Rattle.commands.specs.declared.state.Data.{Data}
use Rattle.commands.specs.declared.state.Held.{Held}
use Rattle.commands.specs.declared.state.Phase.{Phase}
use Rattle.commands.specs.declared.state.State.{State}
use Rattle.labels.specs.LabelLists.{commands_held}
use Rattle.lexer.specs.Stored.{range}
use Rattle.std.proofs.Math.Option.{Option, none, some}
use Rattle.std.specs.Prelude as Std
use Rattle.lexer.specs.declared.Fault.{Fault}
use Rattle.block.specs.declared.model.CharacterOrdering.{CharacterOrdering}
use Rattle.block.specs.declared.format_options.Options.{Options}

-- What the words of a text mean, as work memory names them.
module _ (text work : List ℕ) where
  unfoldable pub names_in : Std.Option (ℕ × ℕ) → Option (List (List ℕ))
  names_in None = none
  names_in (Some (from, to)) = some (names_of (words (range text work from to)))

  unfoldable pub style_of : Std.Option Options → Option F.Format
  style_of None = none
  style_of (Some o) = some (F.format_of (options_of text work o))

-- How a matrix that is held reads, and the types that a set gave to its characters.
pub record Reader : Type 0 where
  pub reading : Held → Reading
  pub types : Held → Types

module _ (m : Reader) (text work : List ℕ) where
  unfoldable pub matrix_of : Std.Option Held → Option Reading
  matrix_of None = none
  matrix_of (Some h) = some (m.reading h)

  unfoldable pub data_of : Data → B.Data
  data_of d =
      record {
        dimensions = option_of d.sizes;
        format = style_of text work d.style;
        taxa = names_in text work d.names;
        labels = commands_held text work d.labels;
        matrix = matrix_of d.matrix;
      }

  -- The types of a set that was read.
  unfoldable pub types_of : Std.Option Held → Types
  types_of None = []
  types_of (Some h) = m.types h

  unfoldable pub set_of : Std.Option Held → Bool → Option Types
  set_of matrix typed = pick typed (some (types_of matrix)) none

  unfoldable pub phase_of : Data → Std.Option Held → Phase → B.Phase
  phase_of d matrix Phase.Outside = B.outside
  phase_of d matrix (Phase.Taxa b n names) = B.in_taxa b n (names_in text work names)
  phase_of d matrix (Phase.Data b) = B.in_data b (data_of d)
  phase_of d matrix (Phase.Assumptions b default typed) = B.in_assumptions b (option_of default) (set_of matrix typed)
  phase_of d matrix (Phase.Trees b) = B.in_trees b

  unfoldable pub state_of : State → B.State
  state_of s =
      record {
        phase = phase_of s.«data» s.matrix s.phase;
        taxa = names_in text work s.taxa;
        matrix = matrix_of s.matrix;
        assumptions = s.assumptions;
      }

  unfoldable pub stepped : Result State (Fault ℕ) → Outcome B.State
  stepped (Ok s) = done (state_of s)
  stepped (Err f) = refused f.0 f.1

-- The matrix that is held, with another default type, and typed by a set or not.
abbrev pub retyped_held : Held → Std.Option CharacterOrdering → Bool → Held
retyped_held h default typed =
    record {
      names = h.names;
      style = h.style;
      head = h.head;
      to = h.to;
      lines = h.lines;
      taxa = h.taxa;
      characters = h.characters;
      default = default;
      typed = typed;
    }

-- A default type and a set are written over those of the matrix that is held.
pub record Retypes (m : Reader) : Type 0 where
  pub retyped : (h : Held) (default : Std.Option CharacterOrdering) (typed : Bool)
      → m.reading (retyped_held h default typed) ≡ B.with_types (option_of default) (pick typed (some (m.types h)) none) (m.reading h)
  pub counted : (h : Held) → length (m.reading h).characters ≡ h.characters
