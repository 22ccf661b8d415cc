-- The function `cell_step` meets its contract, mode by mode. Assumes nothing.
use Rattle.judging.proofs.CellModeLaws.{step-known, within-other}
use Rattle.judging.specs.CellModes.{step, within}
use Rattle.lexer.specs.Base.{pick}
use borrow.Author.Tests.{eq-eqb}
use mathlib.Core.Path.{refl, sym}
use Rattle.judging.proofs.cells.cell_step.Goals as goal

pub returns-then-b-eq32 : goal.returns-then-b-eq32
unfolding step pick
returns-then-b-eq32 c = rw (eq-eqb _ 32 c.if-b-eq32.true) c.next_cell.ensures

pub returns-in-Fresh : goal.returns-in-Fresh
unfolding within
returns-in-Fresh c = step-known _ _ c.if-b-eq32.false c.in-Fresh.is c.fresh_step.ensures

pub returns-in-Opened : goal.returns-in-Opened
unfolding within
returns-in-Opened c = step-known _ _ c.if-b-eq32.false c.in-Opened.is c.opened_step.ensures

pub returns-in-Index : goal.returns-in-Index
unfolding within
returns-in-Index c = step-known _ _ c.if-b-eq32.false c.in-Index.is c.index_step.ensures

pub returns-in_default : goal.returns-in_default
returns-in_default c = step-known _ _ c.if-b-eq32.false refl (sym (within-other _ _ _ c.in_default.not-Fresh c.in_default.not-Opened c.in_default.not-Index))
