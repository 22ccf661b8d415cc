-- The function `is_full` meets its contract. Assumes nothing.
use Rattle.reading.proofs.OptionLaws.{no-some}
use Rattle.reading.proofs.ToldRows.{open-short}
use Rattle.reading.specs.RowWalk.{full, full_with}
use mathlib.Core.Path.{◌∙◌}
use Rattle.reading.proofs.lines.is_full.Goals as goal

pub returns-then-is_none : goal.returns-then-is_none
unfolding full full_with
returns-then-is_none c = rw (no-some _ c.if-is_none.ensures)

pub returns-else-is_none : goal.returns-else-is_none
unfolding full
returns-else-is_none c = c.if-is_none.false ∙ open-short _ _ c.if-is_none.ensures
