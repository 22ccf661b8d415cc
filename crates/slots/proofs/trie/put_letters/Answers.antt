use Rattle.slots.proofs.GrowthLaws.{growing-start, growing-end, growing-lost, put-size, growing-last, growing-more, room-told}
use lib.ListN.{length-set}
use mathlib.Core.Path.{sym, ◌∙◌}
use native.Mathlib.Omega.{arith}
use Rattle.slots.proofs.trie.put_letters.Goals as goal

pub loop-c-init : goal.loop-c-init
loop-c-init c = growing-start _ _ _ _ _ c.requires.0

pub put_node-requires : goal.put_node-requires
put_node-requires c =
    let room = room-told _ _ (sym c.node_room.ensures ∙ c.loop-c-test.true) in
    (c.loop-c.invariant.below, room.0, room.1, c.letter_at-l.ensures.few)

pub overflow_add-link : goal.overflow_add-link
overflow_add-link c =
    let room = room-told _ _ (sym c.node_room.ensures ∙ c.loop-c-test.true) in
    omega (arith, room.1)

pub overflow_add-top : goal.overflow_add-top
overflow_add-top c =
    let room = room-told _ _ (sym c.node_room.ensures ∙ c.loop-c-test.true) in
    omega (arith, room.1)

pub offset_bounds-work-link : goal.offset_bounds-work-link
offset_bounds-work-link c =
    let room = room-told _ _ (sym c.node_room.ensures ∙ c.loop-c-test.true) in
    let size = put-size _ _ _ _ _ c.loop-c.invariant c.letter_at-l.ensures room.0 c.put_node.ensures in
    omega (arith, size, room.0, c.loop-c.invariant.size, c.requires.0.space)

pub bounds-work-link : goal.bounds-work-link
bounds-work-link c =
    let room = room-told _ _ (sym c.node_room.ensures ∙ c.loop-c-test.true) in
    let size = put-size _ _ _ _ _ c.loop-c.invariant c.letter_at-l.ensures room.0 c.put_node.ensures in
    omega (arith, size, room.0, c.loop-c.invariant.size, c.requires.0.space)

pub overflow_cast-work : goal.overflow_cast-work
overflow_cast-work c =
    let room = room-told _ _ (sym c.node_room.ensures ∙ c.loop-c-test.true) in
    omega (arith, room.1)

pub offset_bounds-work-head : goal.offset_bounds-work-head
offset_bounds-work-head c =
    let room = room-told _ _ (sym c.node_room.ensures ∙ c.loop-c-test.true) in
    let size = put-size _ _ _ _ _ c.loop-c.invariant c.letter_at-l.ensures room.0 c.put_node.ensures in
    omega (arith, size, room.0, c.loop-c.invariant.size, c.requires.0.space)

pub bounds-work-head : goal.bounds-work-head
bounds-work-head c =
    let room = room-told _ _ (sym c.node_room.ensures ∙ c.loop-c-test.true) in
    let size = put-size _ _ _ _ _ c.loop-c.invariant c.letter_at-l.ensures room.0 c.put_node.ensures in
    simp length-set (omega (arith, size, room.0, c.loop-c.invariant.size, c.requires.0.space))

pub shape_of-work-then-l-eq-END : goal.shape_of-work-then-l-eq-END
shape_of-work-then-l-eq-END c =
    let room = room-told _ _ (sym c.node_room.ensures ∙ c.loop-c-test.true) in
    let size = put-size _ _ _ _ _ c.loop-c.invariant c.letter_at-l.ensures room.0 c.put_node.ensures in
    simp length-set (size ∙ c.loop-c.invariant.size)

pub returns-then-l-eq-END : goal.returns-then-l-eq-END
returns-then-l-eq-END c =
    let room = room-told _ _ (sym c.node_room.ensures ∙ c.loop-c-test.true) in
    let size = put-size _ _ _ _ _ c.loop-c.invariant c.letter_at-l.ensures room.0 c.put_node.ensures in
    growing-end _ _ _ _ _ (growing-last _ _ _ _ _ c.loop-c.invariant c.letter_at-l.ensures room.0 c.put_node.ensures c.if-l-eq-END.true) c.requires.1 (omega (arith, size, room.0, c.loop-c.invariant.size, c.requires.0.space)) (omega (arith, size, room.0, c.loop-c.invariant.size, c.requires.0.space))

pub loop-c-smaller : goal.loop-c-smaller
loop-c-smaller c =
    let m = c.letter_at-l.ensures.more c.if-l-eq-END.false in
    omega (arith, m.ahead, m.within)

pub loop-c-preserved : goal.loop-c-preserved
loop-c-preserved c =
    let room = room-told _ _ (sym c.node_room.ensures ∙ c.loop-c-test.true) in
    growing-more _ _ _ _ _ c.loop-c.invariant c.letter_at-l.ensures room.0 c.put_node.ensures c.if-l-eq-END.false

pub shape_of-work : goal.shape_of-work
shape_of-work c = (growing-lost _ _ _ _ _ c.loop-c.invariant (omega (arith, c.loop-c.invariant.size, c.requires.0.space)) 0).size

pub returns : goal.returns
returns c = growing-lost _ _ _ _ _ c.loop-c.invariant (omega (arith, c.loop-c.invariant.size, c.requires.0.space)) _
