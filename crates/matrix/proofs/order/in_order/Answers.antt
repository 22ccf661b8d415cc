use Prim.Native.Nat.{◌+◌}
use Rattle.block.specs.Judged.{judged}
use Rattle.matrix.proofs.ArrangeWalk.{arranging-start, arranging-room, word-here, row-place, arranging-newline, arranging-turn, arranging-end, named-told}
use borrow.Author.Tests.{not-false}
use mathlib.Core.Bool.{false≢true}
use mathlib.Core.Path.{◌≡◌, sym, ◌∙◌}
use native.Mathlib.Omega.{arith}
use Rattle.matrix.proofs.order.in_order.Goals as goal

pub loop-i-init : goal.loop-i-init
loop-i-init c =
    let at = c.args.at in
    let here : at + 0 ≡ at = omega arith in
    λ head. rw here (arranging-start _ _ _ _ _ _ _ _)

pub loop-i-preserved-then-newline : goal.loop-i-preserved-then-newline
loop-i-preserved-then-newline c =
    λ head.
    let a = c.loop-i.invariant head in
    let w = word-here _ _ _ _ _ _ _ _ c.requires _ _ _ a c.loop-i-test.true in
    arranging-newline _ _ _ _ _ _ _ _ c.requires _ _ _ a c.loop-i-test.true (rw (← w) (sym c.newline.ensures ∙ c.if-newline.true))

pub returns-then-not-row_named : goal.returns-then-not-row_named
returns-then-not-row_named c =
    let a = c.loop-i.invariant 0 in
    record { size = a.size; kept = a.kept; good = λ e. absurd (false≢true e) }

pub overflow_add-place : goal.overflow_add-place
overflow_add-place c =
    let a = c.loop-i.invariant 0 in
    omega (arith, arranging-room _ _ _ _ _ _ _ _ c.requires _ _ _ a c.loop-i-test.true, a.size, c.well_formed.1.0.0)

pub overflow_cast-work : goal.overflow_cast-work
overflow_cast-work c =
    let named = named-told _ _ _ _ _ _ (sym c.row_named.ensures ∙ not-false _ c.if-not-row_named.false-raw) in
    omega (arith, named.0, c.requires.3)

pub offset_bounds-work-place : goal.offset_bounds-work-place
offset_bounds-work-place c =
    let a = c.loop-i.invariant 0 in
    omega (arith, arranging-room _ _ _ _ _ _ _ _ c.requires _ _ _ a c.loop-i-test.true, a.size, c.well_formed.1.0.1)

pub bounds-work-place : goal.bounds-work-place
bounds-work-place c =
    arranging-room _ _ _ _ _ _ _ _ c.requires _ _ _ (c.loop-i.invariant 0) c.loop-i-test.true

pub overflow_add-k : goal.overflow_add-k
overflow_add-k c =
    let named = named-told _ _ _ _ _ _ (sym c.row_named.ensures ∙ not-false _ c.if-not-row_named.false-raw) in
    omega (arith, named.0, c.requires.3)

pub loop-i-preserved : goal.loop-i-preserved
loop-i-preserved c =
    let named = named-told _ _ _ _ _ _ (sym c.row_named.ensures ∙ not-false _ c.if-not-row_named.false-raw) in
    let at = c.args.at in
    let k = c.loop-i.k in
    let next : at + (k + 1) ≡ at + k + 1 = omega arith in
    λ head.
    let a = c.loop-i.invariant head in
    let w = word-here _ _ _ _ _ _ _ _ c.requires _ _ _ a c.loop-i-test.true in
    rw next
    (arranging-turn _ _ _ _ _ _ _ _ c.requires _ _ _ a c.loop-i-test.true (rw (← w) (sym c.newline.ensures ∙ c.if-newline.false)) _
    (row-place _ _ _ _ _ _ _ _ c.requires _ _ _ a _ c.loop-i-test.true named))

pub returns : goal.returns
unfolding judged
returns c =
    let a = c.loop-i.invariant 0 in
    record {
      size = a.size;
      kept = a.kept;
      good = λ _ head. record { size = a.size; kept = a.kept; each = arranging-end _ _ _ _ _ _ _ _ c.requires _ _ _ (c.loop-i.invariant head) c.loop-i-test.false };
    }
