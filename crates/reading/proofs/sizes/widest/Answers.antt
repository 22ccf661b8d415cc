-- The function `widest` meets its contract. Assumes nothing.
use Rattle.lexer.specs.Base.{pick}
use Rattle.reading.specs.RecordSizes.{widest}
use borrow.Author.Tests.{le-leb, lt-leb}
use mathlib.Core.Path.{refl}
use native.Mathlib.Omega.{arith}
use Rattle.reading.proofs.sizes.widest.Goals as goal

pub returns-then-states-le10 : goal.returns-then-states-le10
unfolding widest pick
returns-then-states-le10 c = let few = c.if-states-le10.true in (rw (le-leb _ 10 few) refl, omega arith)

pub returns : goal.returns
unfolding widest pick
returns c = let many = c.if-states-le10.false in (rw (lt-leb _ 10 many) refl, omega arith)
