use Prim.Native.Nat.{suc, ◌+◌, ◌-◌}
use mathlib.Core.Path.{◌≡◌, refl}
use native.Mathlib.Omega.{arith}
use Rattle.judging.proofs.ListTold.{listing_start}
use Rattle.judging.proofs.RowsTold.{rows_short, rows_step, rows-over}
use Rattle.judging.proofs.rows.row_lines.Goals as goal

pub loop-row-init : goal.loop-row-init
loop-row-init c = λ some.
    let all : c.args.taxa.0 - 0 ≡ c.args.taxa.0 = omega arith in
    (1, rw all (listing_start _ _ _ _ _ _ _ _ _))

pub returns-in_err-j : goal.returns-in_err-j
returns-in_err-j c =
    let one : c.args.taxa.0 - c.loop-row._row ≡ suc (c.args.taxa.0 - (c.loop-row._row + 1)) = omega arith in
    rw c.from_residual.ensures (rows_short _ _ _ _ _ _ _ _ c.loop-row.invariant one c.in_err-j.ensures refl)

pub loop-row-preserved : goal.loop-row-preserved
loop-row-preserved c =
    let one : c.args.taxa.0 - c.loop-row._row ≡ suc (c.args.taxa.0 - (c.loop-row._row + 1)) = omega arith in
    rows_step _ _ _ _ _ _ _ _ c.loop-row.invariant one c.in_ok-j.ensures _ _ refl

pub returns : goal.returns
returns c = rows-over _ _ _ _ _ _ _ _ c.loop-row.invariant (omega arith)
