use Rattle.block.proofs.NamesWalk.{searching-newline, searching-turn, searching-found, searching-end}
use Rattle.block.specs.NamesHeld.{name_of}
use mathlib.Core.Path.{sym, ◌∙◌}
use Rattle.block.proofs.names.known_name.Goals as goal

pub loop-j-preserved-then-newline : goal.loop-j-preserved-then-newline
loop-j-preserved-then-newline c = searching-newline _ _ _ _ _ _ c.loop-j.invariant c.loop-j-test.true (sym c.newline.ensures ∙ c.if-newline.true)

pub returns-then-alike : goal.returns-then-alike
unfolding name_of
returns-then-alike c =
    searching-found _ _ _ _ _ _ c.loop-j.invariant c.loop-j-test.true (sym c.newline.ensures ∙ c.if-newline.false) (sym c.alike.ensures ∙ c.if-alike.true)

pub loop-j-preserved : goal.loop-j-preserved
unfolding name_of
loop-j-preserved c =
    searching-turn _ _ _ _ _ _ c.loop-j.invariant c.loop-j-test.true (sym c.newline.ensures ∙ c.if-newline.false) (sym c.alike.ensures ∙ c.if-alike.false)

pub returns : goal.returns
returns c = searching-end _ _ _ _ _ _ c.loop-j.invariant c.loop-j-test.false
