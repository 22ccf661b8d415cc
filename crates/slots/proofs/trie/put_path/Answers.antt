-- The function `put_path` meets its contract. Assumes nothing.
use Rattle.slots.proofs.PathLaws.{head-room, put-none, put-lost, put-grown}
use mathlib.Core.Path.{sym, ◌∙◌}
use native.Mathlib.Omega.{arith}
use Rattle.slots.proofs.trie.put_path.Goals as goal

pub returns-then-given_up : goal.returns-then-given_up
returns-then-given_up c =
    put-none c.start_of-top.ensures (sym c.given_up.ensures ∙ c.if-given_up.true)

pub name_reach-requires : goal.name_reach-requires
name_reach-requires c =
    let room = head-room c.args.work.now c.args.head c.start_of-top.result c.start_of-top.ensures (sym c.given_up.ensures ∙ c.if-given_up.false) in
    omega (arith, room.0)

pub offset_bounds-work-head : goal.offset_bounds-work-head
offset_bounds-work-head c =
    let room = head-room c.args.work.now c.args.head c.start_of-top.result c.start_of-top.ensures (sym c.given_up.ensures ∙ c.if-given_up.false) in
    omega (arith, room.1)

pub bounds-work-head : goal.bounds-work-head
bounds-work-head c =
    let room = head-room c.args.work.now c.args.head c.start_of-top.result c.start_of-top.ensures (sym c.given_up.ensures ∙ c.if-given_up.false) in
    omega (arith, room.1)

pub put_letters-requires : goal.put_letters-requires
put_letters-requires c =
    let room = head-room c.args.work.now c.args.head c.start_of-top.result c.start_of-top.ensures (sym c.given_up.ensures ∙ c.if-given_up.false) in
    let e = rw c.in-Part.is at c.name_reach.ensures in
    (record { behind = omega (arith, e.0.ahead); below = e.0.below room.0; free = sym c.start_of.ensures ∙ c.if-start_of-eq0.true; space = room.1 }, c.requires)

pub returns-in_default : goal.returns-in_default
returns-in_default c =
    let room = head-room c.args.work.now c.args.head c.start_of-top.result c.start_of-top.ensures (sym c.given_up.ensures ∙ c.if-given_up.false) in
    put-lost _ _ _ _ room.1

pub returns-in-Part : goal.returns-in-Part
returns-in-Part c =
    let room = head-room c.args.work.now c.args.head c.start_of-top.result c.start_of-top.ensures (sym c.given_up.ensures ∙ c.if-given_up.false) in
    let e = rw c.in-Part.is at c.name_reach.ensures in
    put-grown c.start_of-top.ensures room.0 e.0 c.put_letters.ensures
