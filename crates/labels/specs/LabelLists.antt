-- The label commands that the code keeps, and what they mean.
use Rattle.std.specs.Prelude.{ℕ, ◌+◌, ◌≤◌, ◌<◌, take, List, [], ◌∷◌, map}
use Rattle.block.specs.Commands.{words}
use Rattle.block.specs.Labels.{Labelled, LabelCommand, label_command}
use Rattle.block.specs.Outcome.{Outcome}
use Rattle.labels.specs.LabelEntries.{command_of}
use Rattle.labels.specs.declared.labels.LabelCommand as code
use Rattle.labels.specs.declared.labels.LabelCommands.{LabelCommands}
use Rattle.lexer.specs.Stored.{range}

-- A command whose words stand behind its head, up to an index.
abbrev pub command_held : List ℕ → List ℕ → code.LabelCommand → LabelCommand
command_held text work c = command_of c.what c.head (words (range text work (c.head + 1) c.to))

abbrev pub listed : LabelCommands → List code.LabelCommand
listed ls = ls.first ∷ ls.second ∷ ls.third ∷ []

-- The commands, as many as there are of the three.
unfoldable pub commands_held : List ℕ → List ℕ → LabelCommands → List LabelCommand
commands_held text work ls = take ls.count (map (command_held text work) (listed ls))

-- Its tokens stand in front of a place.
pub record Fits (at : ℕ) (c : code.LabelCommand) : Type 0 where
  pub small : c.head < 1048576
  pub front : c.to ≤ at
  pub short : c.to ≤ 1048576

-- The labels so far with one command more, where there are so many symbols.
abbrev pub command_step : ℕ → List Labelled → LabelCommand → Outcome (List Labelled)
command_step symbols cs c = label_command symbols c.what c cs
