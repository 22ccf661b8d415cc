-- What the steps keep of a state's numbers, where so many numbers of work memory are there and the front of it is where the tokens begin: words
-- that it names are among the tokens, and a matrix that it holds fits in work memory. No answer is wrong without it; with it none says that work
-- memory is short.
use Rattle.std.specs.Prelude.{ℕ, ◌≤◌, ◌<◌, length, true, false, List, ◌≡◌, Some, None, Ok, Err, Option, Result}
use Rattle.block.specs.Format.{format_of}
use Rattle.block.specs.Formats.{options_of}
use Rattle.commands.specs.LabelKinds.{kinds_among}
use Rattle.commands.specs.WorkMap.{map_fits}
use Rattle.commands.specs.declared.state.Data.{Data}
use Rattle.commands.specs.declared.state.Phase.{Phase}
use Rattle.commands.specs.declared.state.State.{State}
use Rattle.labels.specs.LabelLists.{Fits, commands_held}
use Rattle.labels.specs.declared.labels.LabelCommands.{LabelCommands}
use Rattle.lexer.specs.declared.Fault.{Fault}
use Rattle.commands.specs.declared.state.Held.{Held}
use Rattle.block.specs.declared.format_options.Options.{Options}

-- A command whose own word has an index, and which ends at another.
pub record CommandPlaced (front : List ℕ) (head to : ℕ) : Type 0 where
  pub ahead : head < to
  pub within : to ≤ length front
  pub few : length front ≤ 1048576

-- No set has typed its characters.
abbrev pub Untyped : Option Held → Type 0
Untyped None = Unit {0}
Untyped (Some h) = h.typed ≡ false

module _ (text front : List ℕ) (size : ℕ) where
  abbrev pub NamesPlaced : Option (ℕ × ℕ) → Type 0
  NamesPlaced None = Unit {0}
  NamesPlaced (Some (from, to)) = to ≤ length front

  -- A format has at most 74 symbols.
  abbrev pub StylePlaced : Option Options → Type 0
  StylePlaced None = Unit {0}
  StylePlaced (Some o) = length (format_of (options_of text front o)).symbols ≤ 74

  -- No kind of label command comes twice.
  pub record CommandsPlaced (ls : LabelCommands) : Type 0 where
    pub first : Fits (length front) ls.first
    pub second : Fits (length front) ls.second
    pub third : Fits (length front) ls.third
    pub kinds : ls.count ≡ kinds_among (commands_held text front ls)

  abbrev pub MatrixPlaced : Option Held → Type 0
  MatrixPlaced None = Unit {0}
  MatrixPlaced (Some h) = map_fits size (length front) h.lines h.taxa h.characters ≡ true

  pub record DataPlaced (d : Data) : Type 0 where
    pub style : StylePlaced d.style
    pub names : NamesPlaced d.names
    pub labels : CommandsPlaced d.labels
    pub matrix : MatrixPlaced d.matrix
    pub untyped : Untyped d.matrix

  -- In a data block no matrix was read before; in ASSUMPTIONS the matrix has no types yet.
  abbrev pub PhasePlaced : State → Phase → Type 0
  PhasePlaced s Phase.Outside = Unit {0}
  PhasePlaced s (Phase.Taxa b n names) = NamesPlaced names
  PhasePlaced s (Phase.Data b) = DataPlaced s.«data» × (s.matrix ≡ None)
  PhasePlaced s (Phase.Assumptions b default typed) = Untyped s.matrix
  PhasePlaced s (Phase.Trees b) = Unit {0}

  pub record StatePlaced (s : State) : Type 0 where
    pub phase : PhasePlaced s s.phase
    pub taxa : NamesPlaced s.taxa
    pub matrix : MatrixPlaced s.matrix
    pub untyped : s.assumptions ≡ false → Untyped s.matrix

  abbrev pub SteppedPlaced : Result State (Fault ℕ) → Type 0
  SteppedPlaced (Ok s) = StatePlaced s
  SteppedPlaced (Err f) = Unit {0}
