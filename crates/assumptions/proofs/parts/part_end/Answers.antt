use Rattle.assumptions.proofs.PartWalks.{ending-turn, ending-dash, ending-end}
use Rattle.lexer.proofs.NextBytes.{yielded}
use native.Mathlib.Omega.{arith}
use Rattle.assumptions.proofs.parts.part_end.Goals as goal

pub returns-then-b-eq45 : goal.returns-then-b-eq45
returns-then-b-eq45 c = ending-dash _ _ _ c.loop-b.invariant _ _ ((yielded _ _ _ c.next_byte.ensures).byte _ _ c.in-Some.is) c.if-b-eq45.true

pub loop-b-smaller : goal.loop-b-smaller
loop-b-smaller c = let y = (yielded _ _ _ c.next_byte.ensures).byte _ _ c.in-Some.is in omega arith

pub loop-b-preserved : goal.loop-b-preserved
loop-b-preserved c = ending-turn _ _ _ c.loop-b.invariant _ _ ((yielded _ _ _ c.next_byte.ensures).byte _ _ c.in-Some.is) c.if-b-eq45.false

pub returns : goal.returns
returns c = ending-end _ _ _ c.loop-b.invariant ((yielded _ _ _ c.next_byte.ensures).end c.in_default.is)
