use Rattle.block.specs.Judged.{judged}
use Rattle.labels.proofs.LabelCommandLaws.{applying-turn, applying-refused, applying-end, commands-fit}
use Rattle.std.proofs.lemmas.Result.{err_from_is_err_and}
use mathlib.Core.Path.{refl}
use Rattle.labels.proofs.labels.apply_each.Goals as goal

pub loop-c-preserved : goal.loop-c-preserved
unfolding judged
loop-c-preserved c =
    let f = commands-fit c.args.commands _ c.min.ensures c.loop-c.c-index c.args.room.at _ c.requires.2 c.requires.3 c.requires.4 c.loop-c-test.true in
    applying-turn _ _ _ _ _ _ _ _ c.loop-c.invariant _ c.min.ensures _ c.loop-c-test.true _ refl f.front _ c.label_command.auto.work c.label_command.ensures.front c.in_ok-label_command.ensures.labelled

pub returns-in_err-label_command-clause-labelled : goal.returns-in_err-label_command-clause-labelled
unfolding judged
returns-in_err-label_command-clause-labelled c =
    let f = commands-fit c.args.commands _ c.min.ensures c.loop-c.c-index c.args.room.at _ c.requires.2 c.requires.3 c.requires.4 c.loop-c-test.true in
    let p = err_from_is_err_and c.from_residual.result c.from_residual.ensures.1 in
    rw (p.1, p.2) (applying-refused _ _ _ _ _ _ _ _ c.loop-c.invariant _ c.min.ensures _ c.loop-c-test.true _ refl f.front _ _ c.in_err-label_command.ensures.labelled)

pub returns-clause-labelled : goal.returns-clause-labelled
unfolding judged
returns-clause-labelled c = applying-end _ _ _ _ _ _ _ _ c.loop-c.invariant _ c.min.ensures c.loop-c-test.false
