-- The function `end_row` meets its contract. Assumes nothing.
use Rattle.judging.proofs.CellModeLaws.{row-end-none, row-end-some}
use Rattle.lexer.specs.Base.{pick}
use mathlib.Core.Path.{sym}
use Rattle.judging.proofs.cells.end_row.Goals as goal

pub returns-then-characters-eq0 : goal.returns-then-characters-eq0
returns-then-characters-eq0 c = sym (row-end-none _ _ _ _ _ c.if-characters-eq0.true)

pub returns-then-ends_cell-characters : goal.returns-then-ends_cell-characters
unfolding pick
returns-then-ends_cell-characters c = sym (row-end-some _ _ _ _ _ c.if-characters-eq0.false _ _ c.ends_cell.ensures c.if-ends_cell-characters.true)

pub returns : goal.returns
unfolding pick
returns c = sym (row-end-some _ _ _ _ _ c.if-characters-eq0.false _ _ c.ends_cell.ensures c.if-ends_cell-characters.false)
