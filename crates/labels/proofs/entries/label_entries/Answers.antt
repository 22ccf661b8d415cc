use Rattle.block.specs.Commands.{words}
use Rattle.block.specs.Judged.{judged}
use Rattle.block.specs.Labels as labels
use Rattle.block.specs.Labels.{label_entries}
use Rattle.block.specs.Outcome.{then}
use Rattle.labels.proofs.EntriesWalk.{entering-start, entering-newline, entering-turn, entering-refused, entering-end}
use Rattle.labels.specs.LabelEntries.{entered}
use Rattle.lexer.specs.Stored.{range}
use Rattle.std.proofs.lemmas.Result.{err_from_is_err_and}
use mathlib.Core.Path.{sym, ◌∙◌}
use Rattle.labels.proofs.entries.label_entries.Goals as goal

pub loop-i-init : goal.loop-i-init
loop-i-init c = entering-start _ _ _ _ _ _ _ c.requires.1 _

pub loop-i-preserved-then-newline : goal.loop-i-preserved-then-newline
loop-i-preserved-then-newline c =
    entering-newline _ _ _ _ _ _ _ c.requires.1 _ _ _ c.loop-i.invariant c.loop-i-test.true (sym c.newline.ensures ∙ c.if-newline.true)

pub loop-i-preserved : goal.loop-i-preserved
unfolding entered
loop-i-preserved c =
    entering-turn _ _ _ _ _ _ _ c.requires.1 _ _ _ c.loop-i.invariant c.loop-i-test.true (sym c.newline.ensures ∙ c.if-newline.false) _ _ c.entry_turn.auto.work c.entry_turn.ensures.front c.in_ok-entry.ensures.placed (c.in_ok-entry.ensures.entered (words (range c.args.text.now c.args.work.now c.args.from c.args.c.to)))

pub returns-in_err-entry-clause-labelled : goal.returns-in_err-entry-clause-labelled
unfolding entered judged label_entries then
returns-in_err-entry-clause-labelled c =
    let p = err_from_is_err_and c.from_residual.result c.from_residual.ensures.1 in
    rw (p.1, p.2, ← entering-refused _ _ _ _ _ _ _ c.requires.1 _ _ _ c.loop-i.invariant c.loop-i-test.true (sym c.newline.ensures ∙ c.if-newline.false) _ _ (c.in_err-entry.ensures.entered (words (range c.args.text.now c.args.work.now c.args.from c.args.c.to))))

pub returns-clause-labelled : goal.returns-clause-labelled
unfolding labels.at label_entries then
returns-clause-labelled c =
    rw (← entering-end _ _ _ _ _ _ _ c.requires.1 _ _ _ c.loop-i.invariant c.loop-i-test.false) (c.entry_end.ensures.labelled _ _)
