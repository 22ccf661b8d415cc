-- The function `escape_like` meets its contract, test by test. Assumes nothing.
use Rattle.naming.proofs.EscapeLike.{escape-lf, escape-slash, plain-unlike, plain-like, plain-within}
use native.Mathlib.Omega.{arith}
use Rattle.naming.proofs.lines.escape_like.Goals as goal

pub returns-then-c-eq10 : goal.returns-then-c-eq10
returns-then-c-eq10 c = rw (escape-lf c.args.c c.if-c-eq10.true) c.slash_like.ensures

pub returns-then-c-eq92 : goal.returns-then-c-eq92
returns-then-c-eq92 c = rw (escape-slash c.args.c c.if-c-eq92.true) c.slash_like-then-c-eq92.ensures

pub returns-then-lower-lower_byte : goal.returns-then-lower-lower_byte
returns-then-lower-lower_byte c =
    plain-unlike _ _ _ c.if-c-eq10.false c.if-c-eq92.false c.lower.ensures c.lower_byte.ensures c.if-lower-lower_byte.true

pub returns : goal.returns
returns c =
    plain-like _ _ _ c.if-c-eq10.false c.if-c-eq92.false c.lower.ensures c.lower_byte.ensures c.if-lower-lower_byte.false

pub overflow_add-result : goal.overflow_add-result
overflow_add-result c =
    let a = c.args in
    let h = plain-within a.source.now a.i a.c c.if-c-eq10.false c.if-c-eq92.false c.lower.ensures c.lower_byte.ensures c.if-lower-lower_byte.false in
    omega arith
