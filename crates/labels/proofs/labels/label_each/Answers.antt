use Rattle.block.specs.Judged.{judged}
use Rattle.labels.proofs.EachLabelled.{each_start, each-newline, each_turn, each-refused, each-full, each-end}
use Rattle.std.proofs.lemmas.Result.{err_from_is_err_and}
use mathlib.Core.Path.{sym, ◌∙◌}
use Rattle.labels.proofs.labels.label_each.Goals as goal

pub loop-i-init : goal.loop-i-init
loop-i-init c = each_start _ _ _ _ _ _ c.requires.1

pub loop-i-preserved-then-newline : goal.loop-i-preserved-then-newline
loop-i-preserved-then-newline c =
    each-newline _ _ _ _ _ _ c.requires.1 _ _ _ c.loop-i.invariant c.loop-i-test.true (sym c.newline.ensures ∙ c.if-newline.true)

pub returns-then-room-k-clause-labelled : goal.returns-then-room-k-clause-labelled
unfolding judged
returns-then-room-k-clause-labelled c = each-full _ _ _ _ _ _ c.requires.1 _ _ _ c.loop-i.invariant c.if-room-k.true

pub loop-i-preserved : goal.loop-i-preserved
unfolding judged
loop-i-preserved c =
    each_turn _ _ _ _ _ _ c.requires.1 _ _ _ c.loop-i.invariant c.loop-i-test.true (sym c.newline.ensures ∙ c.if-newline.false) c.if-room-k.false _ c.label_one.auto.work c.label_one.ensures.front c.in_ok-label_one.ensures.labelled

pub returns-in_err-label_one-clause-labelled : goal.returns-in_err-label_one-clause-labelled
unfolding judged
returns-in_err-label_one-clause-labelled c =
    let p = err_from_is_err_and c.from_residual.result c.from_residual.ensures.1 in
    rw (p.1, p.2) (each-refused _ _ _ _ _ _ c.requires.1 _ _ _ c.loop-i.invariant c.loop-i-test.true (sym c.newline.ensures ∙ c.if-newline.false) c.if-room-k.false _ _ c.in_err-label_one.ensures.labelled)

pub returns-after-loop-i-clause-labelled : goal.returns-after-loop-i-clause-labelled
unfolding judged
returns-after-loop-i-clause-labelled c = each-end _ _ _ _ _ _ c.requires.1 _ _ _ c.loop-i.invariant c.loop-i-test.false
