use Rattle.judging.proofs.NameJudged.{walking_start, walking-turn, line-over, line-past, line_plain, line-no-escape, line-escape, escape-within}
use Rattle.judging.specs.NameRest.{name_rest, unescape}
use mathlib.Core.Path.{refl, sym, ap, ◌∙◌}
use native.Mathlib.Omega.{arith}
use Rattle.judging.proofs.names.name_line.Goals as goal

pub loop-at-init : goal.loop-at-init
loop-at-init c = rw c.open-s.ensures (walking_start _ _ _ refl refl refl refl)

pub returns-then-b-eq10 : goal.returns-then-b-eq10
returns-then-b-eq10 c =
    rw c.name_end.ensures (c.loop-at.invariant.back _ (line-over _ _ (name_rest c.loop-at.s) c.if-b-eq10.true))

pub returns-in_err-meant : goal.returns-in_err-meant
returns-in_err-meant c =
    rw c.from_residual.ensures
    (c.loop-at.invariant.back _
    (line-no-escape _ _ c.loop-at-test.true c.if-b-eq92.true _ refl (name_rest c.loop-at.s) (ap unescape (sym c.byte_or_zero.ensures) ∙ c.in_err-meant.ensures.none refl)))

pub overflow_add-at-then-b-eq92-2 : goal.overflow_add-at-then-b-eq92-2
overflow_add-at-then-b-eq92-2 c =
    let within = escape-within c.args.source.now c.loop-at.at c.loop-at-test.true c.if-b-eq92.true _ ((c.in_ok-meant.ensures.some _ refl).0 ∙ ap unescape c.byte_or_zero.ensures) (c.in_ok-meant.ensures.some _ refl).1 in
    omega arith

pub loop-at-preserved-then-b-eq92 : goal.loop-at-preserved-then-b-eq92
loop-at-preserved-then-b-eq92 c =
    walking-turn _ _ _ _ _ c.loop-at.invariant _ _
    (line-escape _ _ c.loop-at-test.true c.if-b-eq92.true _ ((c.in_ok-meant.ensures.some _ refl).0 ∙ ap unescape c.byte_or_zero.ensures) (c.in_ok-meant.ensures.some _ refl).1 _ _ c.next_byte-s.ensures)

pub loop-at-preserved : goal.loop-at-preserved
loop-at-preserved c =
    walking-turn _ _ _ _ _ c.loop-at.invariant _ _
    (λ w judged.
    line_plain _ _ c.loop-at-test.true c.if-b-eq10.false c.if-b-eq92.false _ _ _ c.wide_at.ensures c.next_byte-s-else-b-eq92.ensures w
    (c.skip-at.ensures.back w judged))

pub returns : goal.returns
returns c = c.loop-at.invariant.back _ (line-past _ _ (name_rest c.loop-at.s) c.loop-at-test.false)
