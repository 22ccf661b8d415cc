use Rattle.judging.proofs.CellsJudged.{judged-none, judged-row, moves-few, moves-none, moves-then}
use Rattle.judging.proofs.cells.cells_line.Goals as goal

pub loop-walk-init : goal.loop-walk-init
loop-walk-init c = moves-none _ _ _

pub returns-then-source-at-eq10 : goal.returns-then-source-at-eq10
returns-then-source-at-eq10 c = judged-row _ _ _ _ _ c.loop-walk.invariant c.loop-walk-test.true c.if-source-at-eq10.true _ c.end_row.ensures

pub walk_on-walk-requires-clause-few : goal.walk_on-walk-requires-clause-few
walk_on-walk-requires-clause-few c = moves-few _ _ _ _ c.loop-walk.invariant

pub loop-walk-preserved : goal.loop-walk-preserved
loop-walk-preserved c = moves-then _ _ c.loop-walk.invariant c.walk_on-walk.ensures.1

pub returns : goal.returns
returns c = judged-none _ _ _ _ _ c.loop-walk.invariant c.loop-walk-test.false
