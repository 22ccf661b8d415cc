use Rattle.matrix.proofs.CellWalk.{running-turn, running-wrong, running-end}
use mathlib.Core.Path.{sym, ◌∙◌}
use native.Mathlib.Omega.{arith}
use Rattle.matrix.proofs.cells.run_cells.Goals as goal

pub returns-then-code : goal.returns-then-code
returns-then-code c =
    running-wrong _ _ _ _ _ _ _ _ _ c.loop-i.invariant c.loop-i-test.true (omega arith) (sym c.entry_of-code.ensures ∙ c.if-code.true)

pub loop-i-preserved : goal.loop-i-preserved
loop-i-preserved c =
    rw c.entry_of-code.ensures
    (running-turn _ _ _ _ _ _ _ _ _ c.loop-i.invariant c.loop-i-test.true (omega arith) (λ e. c.if-code.false (c.entry_of-code.ensures ∙ e)))

pub returns : goal.returns
returns c = running-end _ _ _ _ _ _ _ _ _ c.loop-i.invariant c.loop-i-test.false
