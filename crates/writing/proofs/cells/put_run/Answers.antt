use Rattle.writing.proofs.RowPut.{run_short, run-then}
use mathlib.Core.Path.{◌∙◌}
use native.Mathlib.Omega.{arith}
use Rattle.writing.proofs.cells.put_run.Goals as goal

pub loop-s-preserved : goal.loop-s-preserved
loop-s-preserved c =
    let short = c.short_sign.ensures _ c.in-Some.is in
    (omega arith, c.put-m.ensures.kept ∙ c.loop-s.invariant.1, run-then _ _ _ c.loop-s.invariant.2 (run_short _ _ _ _ _ _ _ _ short.1 short.0 c.put-m.ensures))
