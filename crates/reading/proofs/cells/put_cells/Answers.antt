use Rattle.lexer.proofs.NextBytes.{yielded}
use Rattle.lexer.proofs.PlainRuns.{run-left}
use Rattle.reading.proofs.RowPieces.{cells-end, cells-start, cells-turn}
use Rattle.reading.proofs.RunPieces.{cells-run}
use mathlib.Core.Path.{refl, ◌∙◌}
use native.Mathlib.Omega.{arith}
use Rattle.reading.proofs.cells.put_cells.Goals as goal

pub loop-b-init : goal.loop-b-init
loop-b-init c = (refl, cells-start _ _ _ _ c.text_start-c.ensures)

pub put_run-row-requires : goal.put_run-row-requires
put_run-row-requires c = let run = run-left _ _ _ c.plain_run-run.ensures in (run.ahead, run.within)

pub loop-b-smaller : goal.loop-b-smaller
loop-b-smaller c =
    let y = (yielded _ _ _ c.next_byte.ensures).byte _ _ c.in-Some.is in
    let run = run-left _ _ _ c.plain_run-run.ensures in
    omega (arith, y.ahead, y.within, run.ahead)

pub loop-b-preserved : goal.loop-b-preserved
loop-b-preserved c =
    let a = c.args in
    let ran = cells-run a.codes.now a.text.now a.start c.loop-b.c c.plain_run-run.result c.loop-b.invariant.1 (run-left _ _ _ c.plain_run-run.ensures) c.put_run-row.ensures in
    (c.put_cell-row.ensures.put.kept ∙ c.put_run-row.ensures.put.kept ∙ c.loop-b.invariant.0, cells-turn _ _ _ _ ran _ _ ((yielded _ _ _ c.next_byte.ensures).byte _ _ c.in-Some.is) (rw c.entry_of.ensures at c.put_cell-row.ensures))

pub returns-in_default : goal.returns-in_default
returns-in_default c =
    let a = c.args in
    let ran = cells-run a.codes.now a.text.now a.start c.loop-b.c c.plain_run-run.result c.loop-b.invariant.1 (run-left _ _ _ c.plain_run-run.ensures) c.put_run-row.ensures in
    cells-end _ _ _ _ ran ((yielded _ _ _ c.next_byte.ensures).end c.in_default.is)
