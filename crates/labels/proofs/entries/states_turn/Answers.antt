-- The function `states_turn` meets its contract: one test after the other. Assumes nothing.
use Rattle.block.specs.Judged.{judged}
use Rattle.block.specs.Outcome.{then}
use Rattle.labels.proofs.EntryTurns.{names-grown, states-comma, states-more, states-nameless}
use Rattle.labels.specs.LabelEntries.{entered, entry_of}
use Rattle.lexer.specs.Stored.{word_of}
use Rattle.std.proofs.lemmas.Result.{err_from_is_err_and}
use mathlib.Core.Path.{sym, ◌∙◌}
use Rattle.labels.proofs.entries.states_turn.Goals as goal

pub returns-then-punct-clause-entered : goal.returns-then-punct-clause-entered
unfolding entered entry_of judged then
returns-then-punct-clause-entered c =
    λ d. rw (states-comma _ d _ _ _ _ _ (sym c.punct.ensures ∙ c.if-punct.true), ← c.in_ok-entry_states.ensures.labelled)

pub returns-in_err-entry_states-clause-entered : goal.returns-in_err-entry_states-clause-entered
unfolding entered entry_of judged then
returns-in_err-entry_states-clause-entered c =
    let p = err_from_is_err_and c.from_residual.result c.from_residual.ensures.1 in
    λ d. rw (p.1, p.2, states-comma _ d _ _ _ _ _ (sym c.punct.ensures ∙ c.if-punct.true), ← c.in_err-entry_states.ensures.labelled)

pub returns-then-named-clause-entered : goal.returns-then-named-clause-entered
unfolding entered entry_of
returns-then-named-clause-entered c =
    let name = sym c.named.ensures ∙ c.if-named.true in
    λ d. rw (names-grown _ _ _ _ _ c.requires.3 c.requires.4 name) (states-more _ d _ _ _ _ _ (sym c.punct.ensures ∙ c.if-punct.false) name)

pub returns-clause-entered : goal.returns-clause-entered
unfolding entered word_of
returns-clause-entered c =
    λ d. states-nameless _ d _ _ _ _ _ (sym c.punct.ensures ∙ c.if-punct.false) (sym c.named.ensures ∙ c.if-named.false)
