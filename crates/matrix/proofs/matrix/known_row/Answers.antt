-- The function `known_row` meets its contract. Assumes nothing.
use Rattle.matrix.proofs.PlaceWalk.{known-placed, some-given}
use mathlib.Core.Path.{◌∙◌}
use Rattle.matrix.proofs.matrix.known_row.Goals as goal

pub returns : goal.returns
returns c = c.is_some.ensures ∙ some-given c.row_found.result ∙ known-placed _ _ _ (c.row_found.ensures.result_value c.requires.indexed)
