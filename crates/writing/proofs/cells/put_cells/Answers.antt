use Rattle.writing.proofs.RowPut.{cells-end, cells-none, cells-turn, run-all, run-then}
use mathlib.Core.Path.{◌∙◌}
use Rattle.writing.proofs.cells.put_cells.Goals as goal

pub returns-then-source-at : goal.returns-then-source-at
returns-then-source-at c =
    run-all _ _ _ (run-then _ _ _ c.loop-at.invariant.1 c.put_run-run.ensures.1) (cells-none _ _ _ _ _ _ _ c.put_cell-cell.ensures.1 c.if-source-at.true)

pub returns-then-source-at-ne32 : goal.returns-then-source-at-ne32
returns-then-source-at-ne32 c =
    run-all _ _ _ (run-then _ _ _ c.loop-at.invariant.1 c.put_run-run.ensures.1) (cells-end _ _ _ _ _ _ _ c.put_cell-cell.ensures.1 c.if-source-at-ne32.true)

pub loop-at-preserved : goal.loop-at-preserved
loop-at-preserved c = (
  c.put_cell-cell.auto.buffer ∙ c.put_run-run.auto.buffer ∙ c.loop-at.invariant.0,
  run-then _ _ _ (run-then _ _ _ c.loop-at.invariant.1 c.put_run-run.ensures.1) (cells-turn _ _ _ _ _ _ _ c.put_cell-cell.ensures.1 c.if-source-at-ne32.false),
)
