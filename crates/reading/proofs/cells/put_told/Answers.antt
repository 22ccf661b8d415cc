use Prim.Native.Nat.{ℕ, ◌<◌}
use Rattle.lexer.proofs.WordsTold.{stop-told}
use Rattle.matrix.proofs.SetLaws.{closes-told}
use Rattle.reading.proofs.ToldRows.{told-set, told-word}
use Rattle.reading.specs.RowWalk.{none_told}
use Rattle.lexer.proofs.Basics.{and_left, and_right}
use borrow.Author.Tests.{ltb-true}
use lib.Dec.{ltb}
use mathlib.Core.Bool.{true, ◌&&◌}
use mathlib.Core.Path.{◌≡◌}
use native.Mathlib.Omega.{arith}
use Rattle.reading.proofs.cells.put_told.Goals as goal

-- Words are left, and more than one cell is lacking.
going : (i to left : ℕ) → ltb i to && ltb 1 left ≡ true → (i < to) × (1 < left)
going i to left h = (ltb-true i to (and_left (ltb i to) (ltb 1 left) h), ltb-true 1 left (and_right (ltb i to) (ltb 1 left) h))

pub loop-i-init : goal.loop-i-init
loop-i-init c = none_told

pub put_run-last-requires : goal.put_run-last-requires
put_run-last-requires c =
    let within = (stop-told _ _ _ c.word_stop_by-end.ensures c.if-start-end.true).within in
    (omega arith, omega arith)

pub overflow_add-i : goal.overflow_add-i
overflow_add-i c =
    let l = c.loop-i in
    let g = going l.i c.args.to l.last.left c.loop-i-test.true in
    omega (arith, g.0, c.well_formed)

pub loop-i-preserved-then-start-end : goal.loop-i-preserved-then-start-end
loop-i-preserved-then-start-end c =
    let l = c.loop-i in
    let g = going l.i c.args.to l.last.left c.loop-i-test.true in
    told-word l.invariant g.0 _ _ c.start_of-start.ensures (stop-told _ _ _ c.word_stop_by-end.ensures c.if-start-end.true) c.if-last-end.false c.put_run-last.ensures

pub put_whole_set-last-requires : goal.put_whole_set-last-requires
put_whole_set-last-requires c =
    rw c.start_of-start.ensures (closes-told _ _ _ _ _ _ c.set_closes-close.ensures c.if-close-eq0.false).bytes

pub overflow_add-i-in-loop-i : goal.overflow_add-i-in-loop-i
overflow_add-i-in-loop-i c =
    let whole = (closes-told _ _ _ _ _ _ c.set_closes-close.ensures c.if-close-eq0.false).whole in
    omega (arith, whole.room, c.well_formed)

pub loop-i-preserved : goal.loop-i-preserved
loop-i-preserved c =
    let closed = closes-told _ _ _ _ _ _ c.set_closes-close.ensures c.if-close-eq0.false in
    let l = c.loop-i in
    let g = going l.i c.args.to l.last.left c.loop-i-test.true in
    told-set l.invariant g.0 _ closed g.1 (rw c.start_of-start.ensures at c.put_whole_set-last.ensures)
