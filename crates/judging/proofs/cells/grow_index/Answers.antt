-- The function `grow_index` meets its contract: an index that would reach the count is told before it is made. Assumes nothing.
use Rattle.judging.proofs.CellModeLaws.{grown-past, grown-within}
use Rattle.judging.specs.CellModes.{grown}
use Rattle.lexer.specs.Base.{pick}
use borrow.Author.Tests.{eq-eqb}
use mathlib.Core.Path.{sym}
use native.Mathlib.Omega.{arith}
use Rattle.judging.proofs.cells.grow_index.Goals as goal

pub returns-then-n-eq0 : goal.returns-then-n-eq0
unfolding grown pick
returns-then-n-eq0 c = rw (eq-eqb _ 0 c.if-n-eq0.true)

pub returns-then-symbols-d : goal.returns-then-symbols-d
returns-then-symbols-d c =
    let a = c.args in
    sym (grown-past a.symbols a.set a.low a.n a.digit c.if-n-eq0.false (omega (arith, c.if-symbols-d.true)))

pub returns-then-symbols-d-2 : goal.returns-then-symbols-d-2
returns-then-symbols-d-2 c =
    let a = c.args in
    sym (grown-past a.symbols a.set a.low a.n a.digit c.if-n-eq0.false (omega (arith, c.if-symbols-d.false, c.if-symbols-d-2.true)))

pub returns : goal.returns
returns c =
    let a = c.args in
    sym (grown-within a.symbols a.set a.low a.n a.digit c.if-n-eq0.false (omega (arith, c.if-symbols-d.false, c.if-symbols-d-2.false)))
