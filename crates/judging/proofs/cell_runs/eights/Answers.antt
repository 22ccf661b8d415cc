use Rattle.judging.proofs.CellRuns.{moves-eight}
use Rattle.judging.proofs.CellsJudged.{moves-none}
use native.Mathlib.Omega.{arith}
use Rattle.judging.proofs.cell_runs.eights.Goals as goal

pub loop-at-init : goal.loop-at-init
loop-at-init c = (omega arith, c.requires.0, c.requires.1, λ count digit below. moves-none _ _ _)

pub loop-at-preserved : goal.loop-at-preserved
loop-at-preserved c =
    let room = c.loop-at-test.true in
    let held = c.all_held.ensures c.if-not-all_held.false in (
      omega (arith, c.loop-at.invariant.0),
      omega (arith, c.loop-at.invariant.1, room),
      omega (arith, c.loop-at.invariant.2),
      λ count digit below. moves-eight _ _ _ digit below _ (omega (arith, c.loop-at.invariant.1, room)) held _ _ _ c.eight_gaps-any.ensures (c.loop-at.invariant.3 count digit below),
    )
