use Rattle.emit.proofs.PutLaws.{puts-all, puts-more, puts_none}
use Rattle.emit.proofs.put_some.Goals as goal

pub loop-b-init : goal.loop-b-init
loop-b-init c = puts_none

pub loop-b-preserved : goal.loop-b-preserved
loop-b-preserved c = puts-more _ _ c.loop-b.invariant c.loop-b-test.true c.put-at.ensures

pub returns : goal.returns
returns c = puts-all _ _ c.loop-b.invariant c.loop-b-test.false
