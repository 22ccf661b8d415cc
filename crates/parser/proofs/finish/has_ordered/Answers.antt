use Rattle.parser.proofs.OrderedLaws.{yet-turn, yet-found, yet-end}
use Rattle.parser.proofs.finish.has_ordered.Goals as goal

pub returns-then-number-default : goal.returns-then-number-default
returns-then-number-default c = yet-found _ _ _ _ _ c.loop-k.invariant c.loop-k-test.true c.if-number-default.true

pub loop-k-preserved : goal.loop-k-preserved
loop-k-preserved c = yet-turn _ _ _ _ _ c.loop-k.invariant c.loop-k-test.true c.if-number-default.false

pub returns : goal.returns
returns c = yet-end _ _ _ _ _ c.loop-k.invariant c.loop-k-test.false
