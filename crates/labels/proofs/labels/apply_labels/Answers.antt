-- The function `apply_labels` meets its contract: all cleared, then one command after the other. Assumes nothing.
use Rattle.labels.proofs.LabelCommandLaws.{applied-clear}
use mathlib.Core.Path.{◌∙◌}
use Rattle.labels.proofs.labels.apply_labels.Goals as goal

pub returns-clause-labelled : goal.returns-clause-labelled
returns-clause-labelled c =
    c.apply_each.ensures.labelled ∙ applied-clear _ _ _ _ c.clear_labels.ensures.front _ c.requires.2 c.requires.3 c.requires.4 _ _ (c.clear_labels.ensures.clear _)
