-- The function `list_from` meets its contract. Assumes nothing.
use Rattle.std.proofs.lemmas.Result.{err_from_is_err_and}
use Rattle.assumptions.proofs.NextWordLaws.{missed}
use Rattle.assumptions.proofs.TypesetLists.{begin-past, begin-comma, begin-list}
use Rattle.assumptions.specs.ListCode.{list_then}
use Rattle.assumptions.specs.TypesetWalk.{set_of}
use Rattle.block.specs.Typeset.{colon, begin, typeset_turn, typeset_end}
use mathlib.Core.Path.{refl, sym, ◌∙◌}
use Rattle.block.specs.Outcome.{outcome, then}
use Rattle.assumptions.proofs.characters.list_from.Goals as goal

pub returns-in_err-start-clause-answer : goal.returns-in_err-start-clause-answer
unfolding list_then then outcome typeset_turn typeset_end
returns-in_err-start-clause-answer c = λ h.
    let r = err_from_is_err_and c.from_residual.result c.from_residual.ensures.1 in
    rw (r.1, r.2) (c.in_err-start.ensures.answer (set_of _ h) (colon _ _ _) (begin _ _ _) refl (λ w. refl))

pub returns-in_err-first-clause-answer : goal.returns-in_err-first-clause-answer
unfolding list_then then outcome typeset_turn typeset_end
returns-in_err-first-clause-answer c = λ h.
    let p = missed c.word_ahead.ensures _ c.from_residual-in_err-first.ensures.1 c.in_err-first.ensures.value c.in_err-first.ensures.ok_part in
    rw p.0 (begin-past _ h _ _ _ _ _ _ _ p.1 ∙ c.in_ok-start.ensures.answer (set_of _ h) (colon _ _ _) (begin _ _ _) refl (λ w. refl))

pub returns-then-punct-clause-answer : goal.returns-then-punct-clause-answer
unfolding list_then then outcome typeset_turn typeset_end
returns-then-punct-clause-answer c = λ h.
    begin-comma _ h _ _ _ _ _ _ _ _ (c.word_ahead.ensures.some _ c.in_ok-first.ensures.ok_part) (sym c.punct.ensures ∙ c.if-punct.true) ∙ c.in_ok-start.ensures.answer (set_of _ h) (colon _ _ _) (begin _ _ _) refl (λ w. refl)

pub returns-clause-answer : goal.returns-clause-answer
unfolding then outcome typeset_turn typeset_end
returns-clause-answer c = λ h.
    c.list_walk.ensures.answer h ∙ begin-list _ h _ _ _ _ _ _ _ _ (c.word_ahead.ensures.some _ c.in_ok-first.ensures.ok_part) (sym c.punct.ensures ∙ c.if-punct.false) ∙ c.in_ok-start.ensures.answer (set_of _ h) (colon _ _ _) (begin _ _ _) refl (λ w. refl)
