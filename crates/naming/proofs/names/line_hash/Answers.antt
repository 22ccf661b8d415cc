use Rattle.naming.proofs.EntryLaws.{hashing-start, hashing-end, hashing-within, hashing-turn}
use native.Mathlib.Omega.{arith}
use Rattle.naming.proofs.names.line_hash.Goals as goal

pub loop-at-init : goal.loop-at-init
loop-at-init c = hashing-start _ _

pub returns-then-b-eq10 : goal.returns-then-b-eq10
returns-then-b-eq10 c = hashing-end _ _ _ _ c.loop-at.invariant c.lower_byte-b.ensures c.if-b-eq10.true

pub overflow_add-i : goal.overflow_add-i
overflow_add-i c = let h = hashing-within _ _ _ _ c.loop-at.invariant c.lower_byte-b.ensures c.if-b-eq10.false in omega arith

pub loop-at-smaller : goal.loop-at-smaller
loop-at-smaller c = let h = hashing-within _ _ _ _ c.loop-at.invariant c.lower_byte-b.ensures c.if-b-eq10.false in omega arith

pub loop-at-preserved : goal.loop-at-preserved
loop-at-preserved c = hashing-turn _ _ _ _ c.loop-at.invariant c.lower_byte-b.ensures c.if-b-eq10.false
