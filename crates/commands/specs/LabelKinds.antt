-- How many kinds of label commands there are among some.
use Rattle.std.specs.Prelude.{ℕ, ◌+◌, List, [], ◌∷◌, ◌++◌, ◌≡◌}
use Rattle.block.specs.Blocks.{labelled_by}
use Rattle.block.specs.Labels.{LabelCommand}
use Rattle.block.specs.declared.kinds.Labelling.{Labelling}
use Rattle.labels.specs.LabelLists.{Fits, command_held, commands_held}
use Rattle.labels.specs.declared.labels.LabelCommand as code
use Rattle.labels.specs.declared.labels.LabelCommands.{LabelCommands}
use Rattle.lexer.specs.Base.{pick}

-- How many kinds are among the commands. Where they are as many as the commands, no kind comes twice.
unfoldable pub kinds_among : List LabelCommand → ℕ
kinds_among cs =
    pick (labelled_by Labelling.CharLabels cs) 1 0 + pick (labelled_by Labelling.StateLabels cs) 1 0 + pick (labelled_by Labelling.CharStateLabels cs) 1 0

-- The commands with one more behind them.
pub record OneMore (ls : LabelCommands) (c : code.LabelCommand) (more : LabelCommands) : Type 0 where
  pub count : more.count ≡ ls.count + 1
  pub held : (text work : List ℕ) → commands_held text work more ≡ commands_held text work ls ++ (command_held text work c ∷ [])
  pub first : (at : ℕ) → Fits at ls.first → Fits at c → Fits at more.first
  pub second : (at : ℕ) → Fits at ls.second → Fits at c → Fits at more.second
  pub third : (at : ℕ) → Fits at c → Fits at more.third
