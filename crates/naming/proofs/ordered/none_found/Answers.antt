use Prim.Native.Nat.{suc, ◌+◌, ◌-◌}
use Rattle.naming.proofs.EnteredRows.{looking-over, looking-turn, looking-end}
use Rattle.naming.proofs.JudgedLaws.{remains-all}
use mathlib.Core.Path.{◌≡◌, refl}
use native.Mathlib.Omega.{arith}
use Rattle.naming.proofs.ordered.none_found.Goals as goal

pub loop-row-init : goal.loop-row-init
loop-row-init c =
    let all : c.args.rows.count.0 - 0 ≡ c.args.rows.count.0 = omega arith in
    rw all (record { rest = remains-all _ _ _ })

pub returns-then-line_found : goal.returns-then-line_found
returns-then-line_found c =
    let one : c.args.rows.count.0 - c.loop-row._row ≡ suc (c.args.rows.count.0 - (c.loop-row._row + 1)) = omega arith in
    looking-over _ _ _ _ _ _ _ _ _ c.loop-row.invariant one c.name_begin-name.ensures c.line_found.ensures c.if-line_found.true refl

pub loop-row-preserved : goal.loop-row-preserved
loop-row-preserved c =
    let one : c.args.rows.count.0 - c.loop-row._row ≡ suc (c.args.rows.count.0 - (c.loop-row._row + 1)) = omega arith in
    looking-turn _ _ _ _ _ _ _ _ _ c.loop-row.invariant one c.name_begin-name.ensures c.line_found.ensures c.next_row-here.ensures c.if-line_found.false

pub returns : goal.returns
returns c = looking-end _ _ _ _ _ _ _ _ _ c.loop-row.invariant (omega arith)
