use Rattle.naming.proofs.LineLaws.{ending-end, ending-within, ending-turn}
use native.Mathlib.Omega.{arith}
use Rattle.naming.proofs.lines.line_end.Goals as goal

pub overflow_add-at : goal.overflow_add-at
overflow_add-at c = let h = ending-within _ _ _ c.loop-at.invariant c.line_byte.ensures c.loop-at-test.true in omega arith

pub loop-at-smaller : goal.loop-at-smaller
loop-at-smaller c = let h = ending-within _ _ _ c.loop-at.invariant c.line_byte.ensures c.loop-at-test.true in omega arith

pub loop-at-preserved : goal.loop-at-preserved
loop-at-preserved c = ending-turn _ _ _ c.loop-at.invariant c.line_byte.ensures c.loop-at-test.true

pub returns : goal.returns
returns c = ending-end _ _ _ c.loop-at.invariant c.line_byte.ensures c.loop-at-test.false
