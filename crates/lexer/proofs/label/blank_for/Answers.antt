-- The function `blank_for` meets its contract. Assumes nothing.
use Rattle.lexer.specs.Base.{pick}
use borrow.Author.Tests.{eq-eqb, ne_eqb}
use Rattle.lexer.proofs.label.blank_for.Goals as goal

pub returns-then-b-eq95 : goal.returns-then-b-eq95
unfolding pick
returns-then-b-eq95 c = rw (eq-eqb _ 95 c.if-b-eq95.true)

pub returns : goal.returns
unfolding pick
returns c = rw (ne_eqb _ 95 c.if-b-eq95.false)
