-- The function `ends_cell` meets its contract, mode by mode. Assumes nothing.
use Rattle.judging.proofs.CellModeLaws.{ends-other}
use Rattle.judging.specs.CellModes.{ends}
use mathlib.Core.Path.{sym}
use Rattle.judging.proofs.cells.ends_cell.Goals as goal

pub returns-in-Index : goal.returns-in-Index
unfolding ends
returns-in-Index c = rw c.in-Index.is

pub returns-in-Whole : goal.returns-in-Whole
unfolding ends
returns-in-Whole c = rw c.in-Whole.is

pub returns-in_default : goal.returns-in_default
returns-in_default c = sym (ends-other _ c.in_default.not-Index c.in_default.not-Whole)
