use Rattle.judging.proofs.NameJudged.{walking-settled}
use native.Mathlib.Omega.{arith}
use Rattle.judging.proofs.names.ascii_run.Goals as goal

pub loop-at-init : goal.loop-at-init
loop-at-init c = (omega arith, λ s none seen. record { back = λ w judged. judged })

pub returns-then-b-clause-back : goal.returns-then-b-clause-back
returns-then-b-clause-back c = λ s none seen. (c.loop-at.invariant.1 s none seen).back

pub loop-at-preserved : goal.loop-at-preserved
loop-at-preserved c =
    (omega arith, λ s none seen. walking-settled _ _ _ s _ (c.loop-at.invariant.1 s none seen) c.loop-at-test.true none seen c.if-b.false)

pub returns-clause-back : goal.returns-clause-back
returns-clause-back c = λ s none seen. (c.loop-at.invariant.1 s none seen).back
