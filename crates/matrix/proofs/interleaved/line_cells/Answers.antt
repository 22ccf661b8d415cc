use Rattle.matrix.proofs.PageShapes.{growing-start, growing-newline, growing-turn, growing-refused, growing-end}
use mathlib.Core.Path.{sym, ◌∙◌}
use Rattle.matrix.proofs.FaultLaws.{given-on}
use Rattle.matrix.proofs.interleaved.line_cells.Goals as goal
use Rattle.matrix.proofs.interleaved.line_cells.Goals.{else-loop-j-test, then-loop-j-test+then-newline}

pub loop-j-init : goal.loop-j-init
loop-j-init c = growing-start

pub loop-j-preserved : goal.loop-j-preserved
loop-j-preserved c =
    growing-turn c.loop-j.invariant c.loop-j-test.true (sym c.newline.ensures ∙ c.if-newline.false) _ c.chunk_at.ensures c.requires.1 _ c.in_ok-row.was

pub returns-in_err-row : goal.returns-in_err-row
returns-in_err-row c =
    rw (given-on _ c.from_residual.ensures.1)
    (growing-refused c.loop-j.invariant c.loop-j-test.true (sym c.newline.ensures ∙ c.if-newline.false) _ c.chunk_at.ensures _ _ c.in_err-row.was)

pub returns : goal.returns
returns c =
    c.row_count.ensures ∙
    elim c.loop-j-test.branch [
      | else-loop-j-test w ↦ growing-end c.loop-j.invariant w.loop-j-test.false
      | then-loop-j-test+then-newline w ↦ growing-newline c.loop-j.invariant w.loop-j-test.true (sym w.newline.ensures ∙ w.if-newline.true)
    ]
