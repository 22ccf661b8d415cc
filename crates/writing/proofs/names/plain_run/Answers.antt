use Rattle.writing.proofs.QuotedBytes.{run-start, run-turn}
use mathlib.Core.Path.{sym, ◌∙◌}
use Rattle.writing.proofs.names.plain_run.Goals as goal

pub loop-at-init : goal.loop-at-init
loop-at-init c = run-start _ _

pub loop-at-preserved : goal.loop-at-preserved
loop-at-preserved c = run-turn _ _ _ c.loop-at.invariant c.loop-at-test.true (sym c.special.ensures ∙ c.if-special.false)
