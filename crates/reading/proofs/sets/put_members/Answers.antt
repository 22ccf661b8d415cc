use Rattle.reading.proofs.SetPieces.{left_end, left-put, left-skipped}
use mathlib.Core.Path.{◌∙◌}
use native.Mathlib.Omega.{arith}
use Rattle.reading.proofs.sets.put_members.Goals as goal

pub loop-i-preserved-then-mark-eq0 : goal.loop-i-preserved-then-mark-eq0
loop-i-preserved-then-mark-eq0 c =
    (omega (arith, c.loop-i-test.true), c.loop-i.invariant.1, left-skipped _ _ _ c.loop-i.invariant.2 c.loop-i-test.true c.if-mark-eq0.true)

pub loop-i-preserved : goal.loop-i-preserved
loop-i-preserved c =
    let p = c.put_member-at.ensures in
    (omega (arith, c.loop-i-test.true), p.kept ∙ c.loop-i.invariant.1, left-put _ _ _ c.loop-i.invariant.2 c.loop-i-test.true c.if-mark-eq0.false p)

pub returns : goal.returns
returns c = left_end _ _ _ c.loop-i.invariant.2 c.loop-i-test.false
