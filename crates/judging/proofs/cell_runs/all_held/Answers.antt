use Rattle.judging.proofs.CellRuns.{held_more, held_none}
use native.Mathlib.Omega.{arith}
use Rattle.judging.proofs.cell_runs.all_held.Goals as goal

pub loop-i-init : goal.loop-i-init
loop-i-init c = (omega arith, λ t. held_none _ _ _ _ _ _)

pub loop-i-preserved : goal.loop-i-preserved
loop-i-preserved c = (omega arith, held_more _ _ _ _ _ _ _ _ c.loop-i.invariant.1)
