use Rattle.naming.proofs.BeforeLaws.{ordering-told, ordering-ended, ordering-within, ordering-turn}
use native.Mathlib.Omega.{arith}
use Rattle.naming.proofs.ordered.line_before.Goals as goal

pub returns-then-x-y : goal.returns-then-x-y
returns-then-x-y c =
    ordering-told _ _ _ _ _ c.loop-first.invariant c.lower_byte-x.ensures c.lower_byte-y.ensures c.if-x-y.true

pub returns-then-x-eq10 : goal.returns-then-x-eq10
returns-then-x-eq10 c =
    ordering-ended _ _ _ _ _ c.loop-first.invariant c.lower_byte-x.ensures c.lower_byte-y.ensures c.if-x-y.false c.if-x-eq10.true

pub overflow_add-i : goal.overflow_add-i
overflow_add-i c =
    let h = ordering-within _ _ _ _ _ c.loop-first.invariant c.lower_byte-x.ensures c.lower_byte-y.ensures c.if-x-y.false c.if-x-eq10.false in
    omega (arith, h.0)

pub overflow_add-j : goal.overflow_add-j
overflow_add-j c =
    let h = ordering-within _ _ _ _ _ c.loop-first.invariant c.lower_byte-x.ensures c.lower_byte-y.ensures c.if-x-y.false c.if-x-eq10.false in
    omega (arith, h.1)

pub loop-first-smaller : goal.loop-first-smaller
loop-first-smaller c =
    let h = ordering-within _ _ _ _ _ c.loop-first.invariant c.lower_byte-x.ensures c.lower_byte-y.ensures c.if-x-y.false c.if-x-eq10.false in
    omega (arith, h.0)

pub loop-first-preserved : goal.loop-first-preserved
loop-first-preserved c =
    ordering-turn _ _ _ _ _ c.loop-first.invariant c.lower_byte-x.ensures c.lower_byte-y.ensures c.if-x-y.false c.if-x-eq10.false
