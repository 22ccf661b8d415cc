-- The function `inner_step` meets its contract: one block after the other. Assumes nothing.
use Rattle.block.specs.Outcome.{done}
use Rattle.commands.specs.MatrixHeld.{held}
use Rattle.commands.specs.StateHeld.{phase_of, stepped}
use Rattle.commands.specs.Stepping.{state_held, step_held}
use Rattle.parser.proofs.MadeLaws.{kept-made, made_as}
use Rattle.parser.proofs.StepLaws.{inner-assumptions, inner-data, inner-outside, inner-taxa, inner-trees}
use lib.ListN.{length, take}
use mathlib.Core.Path.{ap, ◌∙◌}
use Rattle.parser.proofs.step.inner_step.Goals as goal

pub returns-in-Outside : goal.returns-in-Outside
unfolding step_held state_held stepped phase_of
returns-in-Outside c =
    let args = c.args in
    let text = args.text.now in
    let work = args.work.now in
    let front = take args.count work in
    kept-made text work args.count _ _ args.s _
    (ap done (c.in_phase.ensures.step (held text work args.count) text front) ∙ inner-outside (held text work args.count) text front _ _ _ _ _ _ c.in-Outside.is)
    (λ k p. c.in_phase.ensures.placed text front (length work) p tt)

pub returns-in-Taxa : goal.returns-in-Taxa
returns-in-Taxa c =
    let told = c.in-Taxa.is in
    let args = c.args in
    let text = args.text.now in
    let work = args.work.now in
    made_as text work _ args.count _ _ args.s _ (inner-taxa (held text work args.count) text (take args.count work) _ _ _ _ _ _ _ _ _ told) c.taxa_inner.ensures

pub returns-in-Data : goal.returns-in-Data
returns-in-Data c =
    let told = c.in-Data.is in
    let args = c.args in
    let text = args.text.now in
    let work = args.work.now in
    made_as text work _ args.count _ _ args.s _ (inner-data (held text work args.count) text (take args.count work) _ _ _ _ _ _ _ told) (c.data_inner.ensures told)

pub returns-in-Assumptions : goal.returns-in-Assumptions
returns-in-Assumptions c =
    let told = c.in-Assumptions.is in
    let args = c.args in
    let text = args.text.now in
    let work = args.work.now in
    made_as text work _ args.count _ _ args.s _ (inner-assumptions (held text work args.count) text (take args.count work) _ _ _ _ _ _ _ _ _ told) (c.assumption_step.ensures told)

pub returns-in-Trees : goal.returns-in-Trees
unfolding step_held state_held stepped phase_of
returns-in-Trees c =
    let args = c.args in
    let text = args.text.now in
    let work = args.work.now in
    let front = take args.count work in
    kept-made text work args.count _ _ args.s _
    (ap done (c.in_phase-in-Trees.ensures.step (held text work args.count) text front) ∙ inner-trees (held text work args.count) text front _ _ _ _ _ _ _ c.in-Trees.is)
    (λ k p. c.in_phase-in-Trees.ensures.placed text front (length work) p tt)
