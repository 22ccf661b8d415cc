-- The function `character_turn` meets its contract: one test after the other. Assumes nothing.
use Rattle.block.specs.Judged.{judged}
use Rattle.block.specs.Outcome.{then}
use Rattle.labels.proofs.EntryTurns.{character-comma, character-slash, character-label, character-more}
use Rattle.labels.specs.LabelEntries.{entered, entry_of}
use Rattle.lexer.specs.Stored.{word_of}
use Rattle.std.proofs.lemmas.Result.{err_from_is_err_and}
use mathlib.Core.Path.{sym, ◌∙◌}
use Rattle.labels.proofs.entries.character_turn.Goals as goal

pub returns-then-punct-clause-entered : goal.returns-then-punct-clause-entered
unfolding entered entry_of
returns-then-punct-clause-entered c = λ s d. character-comma s d _ _ _ _ _ (sym c.punct.ensures ∙ c.if-punct.true)

pub returns-then-punct-2-clause-entered : goal.returns-then-punct-2-clause-entered
returns-then-punct-2-clause-entered c =
    λ s d. c.begin_states.ensures.entered _ ∙ sym (character-slash s d _ _ _ _ (sym c.punct.ensures ∙ c.if-punct.false) _ (sym c.punct-2.ensures ∙ c.if-punct-2.true))

pub returns-then-has_label-clause-entered : goal.returns-then-has_label-clause-entered
unfolding entered word_of
returns-then-has_label-clause-entered c =
    λ s d. character-more s d _ _ _ _ (sym c.punct.ensures ∙ c.if-punct.false) (sym c.punct-2.ensures ∙ c.if-punct-2.false) _ c.if-has_label.true

pub returns-clause-entered : goal.returns-clause-entered
unfolding entered entry_of judged then
returns-clause-entered c =
    λ s d. rw (character-label s d _ _ _ _ (sym c.punct.ensures ∙ c.if-punct.false) (sym c.punct-2.ensures ∙ c.if-punct-2.false) _ c.if-has_label.false, ← c.in_ok-label_one.ensures.labelled)

pub returns-in_err-label_one-clause-entered : goal.returns-in_err-label_one-clause-entered
unfolding entered entry_of judged then
returns-in_err-label_one-clause-entered c =
    let p = err_from_is_err_and c.from_residual.result c.from_residual.ensures.1 in
    λ s d. rw (p.1, p.2, character-label s d _ _ _ _ (sym c.punct.ensures ∙ c.if-punct.false) (sym c.punct-2.ensures ∙ c.if-punct-2.false) _ c.if-has_label.false, ← c.in_err-label_one.ensures.labelled)
