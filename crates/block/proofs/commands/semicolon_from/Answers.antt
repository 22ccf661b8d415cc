use Rattle.block.proofs.CutLaws.{seeking-turn, seeking-found, seeking-end, seeking-over}
use Rattle.block.specs.Commands.{semicolon}
use mathlib.Core.Path.{sym, ◌∙◌}
use Rattle.block.proofs.commands.semicolon_from.Goals as goal

pub returns-then-punct : goal.returns-then-punct
unfolding semicolon
returns-then-punct c = seeking-found _ _ _ _ _ _ c.loop-i.invariant c.loop-i-test.true (sym c.punct.ensures ∙ c.if-punct.true)

pub loop-i-preserved : goal.loop-i-preserved
unfolding semicolon
loop-i-preserved c = seeking-turn _ _ _ _ _ _ c.loop-i.invariant c.loop-i-test.true (sym c.punct.ensures ∙ c.if-punct.false)

pub returns : goal.returns
returns c =
    rw (c.max.ensures, seeking-over _ _ _ _ _ _ c.loop-i.invariant c.loop-i-test.false) (seeking-end _ _ _ _ _ _ c.loop-i.invariant c.loop-i-test.false)
