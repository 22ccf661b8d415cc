use Rattle.std.proofs.lemmas.Result.{err_from_is_err_and}
use Rattle.block.proofs.WalkLaws.{walking-newline, walking-turn, walking-refused, walking-end}
use Rattle.block.specs.Dimensions.{dimensions, no_dimensions, dimensions_of}
use Rattle.block.specs.Outcome.{then, outcome}
use mathlib.Core.Path.{sym, ◌∙◌}
use Rattle.block.proofs.dimensions.dimensions.Goals as goal

pub loop-i-preserved-then-newline : goal.loop-i-preserved-then-newline
loop-i-preserved-then-newline c = walking-newline _ _ _ _ c.loop-i.invariant c.loop-i-test.true (sym c.newline.ensures ∙ c.if-newline.true)

pub loop-i-preserved : goal.loop-i-preserved
unfolding outcome
loop-i-preserved c =
    walking-turn _ _ _ _ c.loop-i.invariant _ c.loop-i-test.true (sym c.newline.ensures ∙ c.if-newline.false) (sym c.in_ok-mode.ensures)

pub returns-in_err-mode : goal.returns-in_err-mode
unfolding dimensions no_dimensions dimensions_of then outcome
returns-in_err-mode c =
    let p = err_from_is_err_and c.from_residual.result c.from_residual.ensures.1 in
    rw (p.1, p.2, ← walking-refused _ _ _ _ c.loop-i.invariant _ _ c.loop-i-test.true (sym c.newline.ensures ∙ c.if-newline.false) (sym c.in_err-mode.ensures))

pub returns : goal.returns
unfolding dimensions no_dimensions dimensions_of then
returns c = rw (← walking-end _ _ _ _ c.loop-i.invariant c.loop-i-test.false) c.dimension_end.ensures
