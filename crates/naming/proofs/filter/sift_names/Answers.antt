use Prim.Native.Nat.{suc, ◌+◌, ◌-◌}
use Rattle.naming.proofs.SiftedRows.{sifting-start, sifting-room, sifting-clash, sifting-turn, sifting-end}
use Rattle.std.proofs.lemmas.Result.{err_from_is_err_and}
use mathlib.Core.Path.{◌≡◌, refl}
use native.Mathlib.Omega.{arith}
use Rattle.naming.proofs.filter.sift_names.Goals as goal

pub loop-row-init : goal.loop-row-init
loop-row-init c =
    let all : c.args.rows.count.0 - 0 ≡ c.args.rows.count.0 = omega arith in
    rw all (sifting-start _ _ _ _ _ _ _ _)

pub sift_line-requires : goal.sift_line-requires
sift_line-requires c =
    let k = c.loop-row.invariant in
    (sifting-room _ _ _ _ _ _ _ _ _ _ _ _ _ _ k c.requires, k.few, k.kept)

pub returns-in_err-count : goal.returns-in_err-count
returns-in_err-count c =
    let one : c.args.rows.count.0 - c.loop-row._row ≡ suc (c.args.rows.count.0 - (c.loop-row._row + 1)) = omega arith in
    let p = err_from_is_err_and c.from_residual.result c.from_residual.ensures.1 in
    rw (p.1, p.2) (sifting-clash _ _ _ _ _ _ _ _ _ _ _ _ _ _ c.loop-row.invariant one _ _ _ c.name_begin-name.ensures c.in_err-count.ensures _ refl)

pub loop-row-preserved : goal.loop-row-preserved
loop-row-preserved c =
    let one : c.args.rows.count.0 - c.loop-row._row ≡ suc (c.args.rows.count.0 - (c.loop-row._row + 1)) = omega arith in
    sifting-turn _ _ _ _ _ _ _ _ _ _ _ _ _ _ c.loop-row.invariant one _ _ _ c.name_begin-name.ensures c.in_ok-count.ensures _ refl c.next_row-here.ensures

pub returns : goal.returns
returns c = sifting-end _ _ _ _ _ _ _ _ _ _ _ _ _ _ c.loop-row.invariant (omega arith) _ refl
