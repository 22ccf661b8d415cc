use Prim.Native.Nat.{◌+◌}
use Rattle.lexer.proofs.Basics.{and_right}
use Rattle.reading.proofs.CharacterWalk.{spelling-end, spelling-start, spelling-turn}
use Rattle.reading.proofs.PutWalks.{room-or}
use Rattle.reading.proofs.TenPlain.{ten-told}
use Rattle.reading.proofs.TenWalk.{spelling-ten}
use lib.ListN.{length}
use native.Mathlib.Omega.{arith}
use Rattle.reading.proofs.characters.put_each.Goals as goal

pub loop-k-init : goal.loop-k-init
loop-k-init c = spelling-start _ _ _ _ _ _ _ _ _

pub put_ten-m-requires : goal.put_ten-m-requires
put_ten-m-requires c =
    let t = ten-told _ _ _ _ _ _ _ c.ten_plain.ensures c.if-ten_plain-room.true in
    let l = c.loop-k in
    let either = and_right c.ten_plain.result _ c.if-ten_plain-room.true in
    (room-or c.has_room.result l.m (l.m + 640) (length l.buffer) c.has_room.ensures either, omega arith, t.round)

pub loop-k-preserved-then-ten_plain-room : goal.loop-k-preserved-then-ten_plain-room
loop-k-preserved-then-ten_plain-room c =
    let t = ten-told _ _ _ _ _ _ _ c.ten_plain.ensures c.if-ten_plain-room.true in
    spelling-ten _ _ _ _ _ _ _ _ _ _ c.loop-k.invariant t c.type_at-ordering.ensures c.put_ten-m.ensures

pub loop-k-preserved : goal.loop-k-preserved
loop-k-preserved c =
    spelling-turn _ _ _ _ _ _ _ _ _ _ _ _ _ c.loop-k.invariant _ _ _ _ _ c.loop-k-test.true c.start_of-label.ensures c.start_of-states.ensures c.type_at-ordering.ensures c.put_character-m.ensures

pub returns : goal.returns
returns c = spelling-end _ _ _ _ _ _ _ _ _ _ _ _ _ c.loop-k.invariant c.loop-k-test.false
