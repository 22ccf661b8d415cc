use Rattle.matrix.proofs.SetTurns.{passed-more}
use mathlib.Core.Path.{sym, ◌∙◌}
use Rattle.matrix.proofs.passing.pass_told.Goals as goal

pub loop-told-preserved : goal.loop-told-preserved
loop-told-preserved c =
    passed-more c.loop-told.invariant c.in-Some.ensures c.if-characters-told.false (sym c.newline.ensures ∙ c.if-newline.false)
