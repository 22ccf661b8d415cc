-- The function `meant` meets its contract. Assumes nothing.
use Rattle.lexer.specs.Base.{pick}
use borrow.Author.Tests.{eq-eqb, ne_eqb}
use Rattle.writing.proofs.names.meant.Goals as goal

pub returns-then-b-eq48 : goal.returns-then-b-eq48
unfolding pick
returns-then-b-eq48 c = rw (eq-eqb _ _ c.if-b-eq48.true)

pub returns-else-b-eq48 : goal.returns-else-b-eq48
unfolding pick
returns-else-b-eq48 c = rw (ne_eqb _ _ c.if-b-eq48.false)
