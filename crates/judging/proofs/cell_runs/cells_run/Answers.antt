-- The function `cells_run` meets its contract: as `eights` does, or the walk is as it was. Assumes nothing.
use Rattle.judging.proofs.CellsJudged.{moves-none}
use native.Mathlib.Omega.{arith}
use Rattle.judging.proofs.cell_runs.cells_run.Goals as goal

pub returns : goal.returns
returns c = rw c.fresh.ensures (omega arith, moves-none _ _ _)
