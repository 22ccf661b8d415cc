-- The function `folded` meets its contract. Assumes nothing.
use Rattle.lexer.specs.Base.{lower}
use mathlib.Core.Path.{◌∙◌, ap}
use Rattle.lexer.proofs.label.folded.Goals as goal

pub returns : goal.returns
returns c = c.lower.ensures ∙ ap lower c.blank_for.ensures
