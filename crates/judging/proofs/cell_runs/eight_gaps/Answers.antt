use Rattle.judging.proofs.CellRuns.{gaps-more}
use native.Mathlib.Omega.{arith}
use Rattle.judging.proofs.cell_runs.eight_gaps.Goals as goal

pub loop-i-preserved : goal.loop-i-preserved
loop-i-preserved c = (omega arith, gaps-more c.args.source.now c.args.at c.loop-i.i c.loop-i.gap c.loop-i.invariant.1)
