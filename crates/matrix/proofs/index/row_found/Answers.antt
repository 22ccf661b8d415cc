use Rattle.matrix.proofs.IndexLaws.{searched-turn, searched-end, searched-none, searched-value, first-place}
use Rattle.matrix.specs.Lines.{name_at}
use mathlib.Core.Path.{refl, ◌∙◌}
use Rattle.matrix.proofs.index.row_found.Goals as goal

pub loop-p-preserved : goal.loop-p-preserved
loop-p-preserved c =
    searched-turn _ _ _ _ _ _ _ _ c.loop-p.invariant c.loop-p-test.true c.start_of-value.ensures c.nearer-found.ensures

pub returns-then-value-eq0-clause-result_value : goal.returns-then-value-eq0-clause-result_value
unfolding name_at
returns-then-value-eq0-clause-result_value c =
    λ x. c.row_index.ensures.result_value ∙ first-place _ _ _ _ _ c.requires.0 _ (searched-end _ _ _ _ _ _ _ _ c.loop-p.invariant c.name_slot-first.ensures c.window_end-stop.ensures refl x c.loop-p-test.true c.start_of-value.ensures c.if-value-eq0.true)

pub returns-in-None-clause-result_value : goal.returns-in-None-clause-result_value
unfolding name_at
returns-in-None-clause-result_value c =
    let told = rw c.in-None.is at c.name_entry.ensures in
    λ x. c.row_index-in-None.ensures.result_value ∙ first-place _ _ _ _ _ c.requires.0 _ (searched-none _ _ _ _ _ _ _ _ c.loop-p.invariant c.name_slot-first.ensures c.window_end-stop.ensures refl x c.loop-p-test.false told)

pub returns-in-Value-clause-result_value : goal.returns-in-Value-clause-result_value
unfolding name_at
returns-in-Value-clause-result_value c =
    let told = rw c.in-Value.is at c.name_entry.ensures in
    λ x. c.row_index-in-Value.ensures.result_value ∙ first-place _ _ _ _ _ c.requires.0 _ (searched-value _ _ _ _ _ _ _ _ c.loop-p.invariant c.name_slot-first.ensures c.window_end-stop.ensures refl x c.loop-p-test.false told.1 c.nearer.ensures)
