use Rattle.naming.proofs.LikeLaws.{comparing-unlike, comparing-ended, comparing-within, comparing-turn}
use native.Mathlib.Omega.{arith}
use Rattle.naming.proofs.lines.lines_alike.Goals as goal

pub returns-then-x-lower_byte : goal.returns-then-x-lower_byte
returns-then-x-lower_byte c =
    comparing-unlike _ _ _ _ _ c.loop-first.invariant c.lower_byte-x.ensures c.lower_byte.ensures c.if-x-lower_byte.true

pub returns-then-x-eq10 : goal.returns-then-x-eq10
returns-then-x-eq10 c =
    comparing-ended _ _ _ _ _ c.loop-first.invariant c.lower_byte-x.ensures c.lower_byte.ensures c.if-x-lower_byte.false c.if-x-eq10.true

pub overflow_add-i : goal.overflow_add-i
overflow_add-i c =
    let h = comparing-within _ _ _ _ _ c.loop-first.invariant c.lower_byte-x.ensures c.lower_byte.ensures c.if-x-lower_byte.false c.if-x-eq10.false in
    omega (arith, h.0)

pub overflow_add-j : goal.overflow_add-j
overflow_add-j c =
    let h = comparing-within _ _ _ _ _ c.loop-first.invariant c.lower_byte-x.ensures c.lower_byte.ensures c.if-x-lower_byte.false c.if-x-eq10.false in
    omega (arith, h.1)

pub loop-first-smaller : goal.loop-first-smaller
loop-first-smaller c =
    let h = comparing-within _ _ _ _ _ c.loop-first.invariant c.lower_byte-x.ensures c.lower_byte.ensures c.if-x-lower_byte.false c.if-x-eq10.false in
    omega (arith, h.0)

pub loop-first-preserved : goal.loop-first-preserved
loop-first-preserved c =
    comparing-turn _ _ _ _ _ c.loop-first.invariant c.lower_byte-x.ensures c.lower_byte.ensures c.if-x-lower_byte.false c.if-x-eq10.false
