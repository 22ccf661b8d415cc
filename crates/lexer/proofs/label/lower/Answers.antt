-- The function `lower` meets its contract. Assumes nothing.
use Rattle.lexer.proofs.Basics.{and_right}
use Rattle.lexer.specs.Base.{lower, pick}
use borrow.Author.Tests.{leb-true}
use lib.Dec.{leb}
use native.Mathlib.Omega.{arith}
use Rattle.lexer.proofs.label.lower.Goals as goal

pub overflow_add-result : goal.overflow_add-result
overflow_add-result c =
    let t = and_right (leb 65 c.args.b) (leb c.args.b 90) c.if-b.true in
    omega (arith, leb-true c.args.b 90 t)

pub returns-then-b : goal.returns-then-b
unfolding lower pick
returns-then-b c = rw c.if-b.true

pub returns : goal.returns
unfolding lower pick
returns c = rw c.if-b.false
