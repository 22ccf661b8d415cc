-- The function `storable` meets its contract: one test after the other. Assumes nothing.
use Rattle.commands.specs.MatrixHeld.{held}
use Rattle.parser.proofs.StorableLaws.{storable-long, storable-short, none-held}
use mathlib.Core.Bool.{not}
use mathlib.Core.List.{[]}
use mathlib.Core.Path.{ap, ◌∙◌}
use Rattle.parser.proofs.reading.storable.Goals as goal

pub returns-then-bytes-count : goal.returns-then-bytes-count
returns-then-bytes-count c = storable-long _ _ _ _ _ _ c.if-bytes-count.true

pub returns : goal.returns
returns c =
    storable-short _ _ _ _ _ _ _ _ _ c.if-bytes-count.false (ap not (c.matrix_given.ensures.known (held [] [] 0) [] []) ∙ none-held _ _ _ _) c.names_within.ensures c.commands_within.ensures
