use Rattle.block.proofs.CutLaws.{seeking-turn, seeking-found, seeking-end, seeking-over}
use mathlib.Core.Bool.{not}
use mathlib.Core.Path.{sym, ap, ◌∙◌}
use Rattle.block.proofs.commands.skip_newlines.Goals as goal

pub returns-then-not-newline : goal.returns-then-not-newline
returns-then-not-newline c = seeking-found _ _ _ _ _ _ c.loop-i.invariant c.loop-i-test.true (ap not (sym c.newline.ensures ∙ c.if-not-newline.true))

pub loop-i-preserved : goal.loop-i-preserved
loop-i-preserved c = seeking-turn _ _ _ _ _ _ c.loop-i.invariant c.loop-i-test.true (ap not (sym c.newline.ensures ∙ c.if-not-newline.false))

pub returns : goal.returns
returns c =
    rw (c.max.ensures, seeking-over _ _ _ _ _ _ c.loop-i.invariant c.loop-i-test.false) (seeking-end _ _ _ _ _ _ c.loop-i.invariant c.loop-i-test.false)
