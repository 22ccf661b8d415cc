-- The function `standard` meets its contract. Assumes nothing.
use Rattle.assumptions.proofs.TypesetLists.{lists-front}
use mathlib.Core.Path.{◌∙◌}
use Rattle.assumptions.proofs.typeset.standard.Goals as goal

pub returns-clause-answer : goal.returns-clause-answer
returns-clause-answer c =
    let clear = c.clear_types.ensures in c.lists.ensures.answer ∙ lists-front _ _ _ _ _ _ clear.front _ c.requires.0 _ clear.clear _
