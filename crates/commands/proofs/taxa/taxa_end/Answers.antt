-- The function `taxa_end` meets its contract. Assumes nothing.
use Rattle.commands.proofs.TaxaLaws.{end-absent, end-other, end-met}
use Rattle.commands.specs.StateHeld.{phase_of, state_of, stepped}
use mathlib.Core.Path.{sym}
use Rattle.commands.proofs.taxa.taxa_end.Goals as goal

pub returns-in_default-clause-step : goal.returns-in_default-clause-step
unfolding stepped
returns-in_default-clause-step c =
    λ m. sym (end-absent _ _ _ _ _ _ c.in_default.is)

pub returns-then-count_words-count-clause-step : goal.returns-then-count_words-count-clause-step
unfolding stepped
returns-then-count_words-count-clause-step c =
    let counted = c.count_words.ensures in
    let told = c.in-Some.is in
    λ m. sym (end-other _ _ _ _ _ _ _ _ _ told counted c.if-count_words-count.true)

pub returns-clause-step : goal.returns-clause-step
unfolding stepped state_of phase_of
returns-clause-step c =
    let counted = c.count_words.ensures in
    let told = c.in-Some.is in
    λ m. sym (end-met _ _ _ _ _ _ _ _ _ told counted c.if-count_words-count.false)
