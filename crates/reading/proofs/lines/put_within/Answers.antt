-- The function `put_within` meets its contract: the set ends and is put, or its states grow. Assumes nothing.
use Rattle.reading.proofs.RowSteps.{closing, within_word}
use mathlib.Core.Path.{sym, ◌∙◌}
use Rattle.reading.proofs.lines.put_within.Goals as goal

pub returns-then-closes : goal.returns-then-closes
returns-then-closes c =
    λ kind.
    closing _ c.requires kind (sym c.closes.ensures ∙ c.if-closes.true) c.put_set_cell-row.ensures c.clear.ensures

pub returns : goal.returns
returns c =
    λ kind.
    within_word _ c.requires kind (sym c.closes.ensures ∙ c.if-closes.false) c.mark_word-top.ensures.grown c.mark_word-top.ensures.within
