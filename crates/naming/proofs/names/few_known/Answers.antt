use Prim.Native.Nat.{suc, ◌+◌, ◌-◌}
use Rattle.naming.proofs.EnteredRows.{looking-over, looking-hit, looking-turn, looking-end}
use Rattle.naming.proofs.EntryLaws.{line-sought}
use Rattle.naming.proofs.JudgedLaws.{remains-all}
use mathlib.Core.Path.{◌≡◌}
use native.Mathlib.Omega.{arith}
use Rattle.naming.proofs.names.few_known.Goals.{then-found_line+else-room-eq0, else-found_line}
use Rattle.naming.proofs.names.few_known.Goals as goal

pub loop-row-init : goal.loop-row-init
loop-row-init c =
    let all : c.args.rows.count.0 - 0 ≡ c.args.rows.count.0 = omega arith in
    rw all (record { rest = remains-all _ _ _ })

pub found_line-requires : goal.found_line-requires
found_line-requires c = line-sought _ _ _ _ _ _ c.requires.1 c.requires.2 c.line_slot-from.ensures

pub returns-then-room-eq0 : goal.returns-then-room-eq0
returns-then-room-eq0 c =
    let one : c.args.rows.count.0 - c.loop-row._row ≡ suc (c.args.rows.count.0 - (c.loop-row._row + 1)) = omega arith in
    looking-over _ _ _ _ _ _ _ _ _ c.loop-row.invariant one c.name_begin-name.ensures c.found_line.ensures c.if-found_line.true c.if-room-eq0.true

pub loop-row-preserved : goal.loop-row-preserved
loop-row-preserved c =
    let k = c.loop-row.invariant in
    let one : c.args.rows.count.0 - c.loop-row._row ≡ suc (c.args.rows.count.0 - (c.loop-row._row + 1)) = omega arith in
    elim c.if-found_line.branch [
      | then-found_line+else-room-eq0 w ↦ rw w.room-is (looking-hit _ _ _ _ _ _ _ _ _ k one c.name_begin-name.ensures c.found_line.ensures c.next_row-here.ensures w.if-found_line.true w.if-room-eq0.false)
      | else-found_line w ↦ rw w.room-is (looking-turn _ _ _ _ _ _ _ _ _ k one c.name_begin-name.ensures c.found_line.ensures c.next_row-here.ensures w.if-found_line.false)
    ]

pub returns : goal.returns
returns c = looking-end _ _ _ _ _ _ _ _ _ c.loop-row.invariant (omega arith)
