-- The function `no_data` meets its contract, by computation. Assumes nothing.
use Rattle.block.specs.Blocks.{no_data, labelled_by}
use Rattle.commands.proofs.LabelKindLaws.{no-command-fits}
use Rattle.commands.specs.LabelKinds.{kinds_among}
use Rattle.commands.specs.StateHeld.{data_of, style_of, matrix_of}
use Rattle.lexer.specs.Base.{option_of, pick}
use Rattle.labels.specs.LabelLists.{commands_held}
use mathlib.Core.Path.{refl}
use Rattle.commands.proofs.blocks.no_data.Goals as goal

pub returns-clause-step : goal.returns-clause-step
unfolding data_of option_of style_of commands_held matrix_of no_data kinds_among labelled_by pick
returns-clause-step c = λ m text work. refl

pub returns-clause-placed : goal.returns-clause-placed
unfolding data_of option_of style_of commands_held matrix_of no_data kinds_among labelled_by pick
returns-clause-placed c =
    λ text front size h. record { style = tt; names = h; labels = record { first = no-command-fits _ _; second = no-command-fits _ _; third = no-command-fits _ _; kinds = refl }; matrix = tt; untyped = tt }
