use Rattle.lexer.proofs.RunsAlike.{runs-start, runs-turn, runs-over, runs-end}
use mathlib.Core.Path.{sym, ◌∙◌}
use native.Mathlib.Omega.{arith}
use Rattle.lexer.proofs.label.runs_alike.Goals as goal

pub loop-i-init : goal.loop-i-init
loop-i-init c = runs-start _ _ _ _

pub returns-then-folded : goal.returns-then-folded
returns-then-folded c =
    runs-over _ _ _ _ _ c.loop-i.invariant c.loop-i-test.true (omega arith) (omega arith) (λ e. c.if-folded.true (c.folded.ensures ∙ e ∙ sym c.folded-in-loop-i.ensures))

pub loop-i-preserved : goal.loop-i-preserved
loop-i-preserved c =
    runs-turn _ _ _ _ _ c.loop-i.invariant c.loop-i-test.true (omega arith) (omega arith) (sym c.folded.ensures ∙ c.if-folded.false ∙ c.folded-in-loop-i.ensures)

pub returns : goal.returns
returns c = runs-end _ _ _ _ _ c.loop-i.invariant c.loop-i-test.false
