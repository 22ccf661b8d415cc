use Rattle.writing.proofs.LinePlaces.{line-ends, line_on, line-past}
use native.Mathlib.Omega.{arith}
use Rattle.writing.proofs.characters.behind_line.Goals as goal

pub returns-then-source-i-eq10-clause-found : goal.returns-then-source-i-eq10-clause-found
returns-then-source-i-eq10-clause-found c = c.loop-i.invariant _ (line-ends _ _ (omega arith) c.if-source-i-eq10.true)

pub loop-i-preserved : goal.loop-i-preserved
loop-i-preserved c = λ r p. c.loop-i.invariant r (line_on _ _ (omega arith) c.if-source-i-eq10.false r p)

pub returns-clause-found : goal.returns-clause-found
returns-clause-found c = c.loop-i.invariant _ (line-past _ _ c.loop-i-test.false _)
