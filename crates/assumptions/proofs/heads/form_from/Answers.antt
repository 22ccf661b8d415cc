-- The function `form_from` meets its contract. Assumes nothing.
use Rattle.std.proofs.lemmas.Result.{err_from_is_err_and}
use Rattle.assumptions.proofs.NextWordLaws.{absent, missed}
use Rattle.assumptions.proofs.TypesetWalks.{at-end, at_done, at-refused}
use Rattle.assumptions.specs.TypesetWalk.{set_of, form_then, form_word}
use Rattle.block.specs.Typeset.{form, close, equals, typeset_turn, typeset_end}
use mathlib.Core.Path.{refl, sym, ◌∙◌}
use Rattle.block.specs.Outcome.{outcome, then}
use Rattle.assumptions.proofs.heads.form_from.Goals as goal

pub returns-in_err-i : goal.returns-in_err-i
unfolding form_then typeset_end set_of
returns-in_err-i c = λ n. let p = missed c.word_ahead.ensures _ c.from_residual.ensures.1 c.in_err-i.ensures.value c.in_err-i.ensures.ok_part in rw p.0 (at-end (set_of n _) _ _ _ form _ p.1)

pub returns-in_err-f : goal.returns-in_err-f
unfolding form_then form_word
returns-in_err-f c = λ n.
    let e = absent c.from_residual-in_err-f.result c.from_residual-in_err-f.ensures.1 c.in_err-f.ensures.value c.in_err-f.ensures.ok_part in
    rw e (at-refused (set_of n _) _ _ _ form (c.word_ahead.ensures.some _ c.in_ok-i.ensures.ok_part) _ _ (sym (rw c.in_err-f.ensures.ok_part at (c.form_word.ensures (set_of n c.args.head)))))

pub returns-in_err-mark_from : goal.returns-in_err-mark_from
unfolding form_then then outcome typeset_turn typeset_end form_word
returns-in_err-mark_from c = λ n.
    let r = err_from_is_err_and c.from_residual-in_err-mark_from.result c.from_residual-in_err-mark_from.ensures.1 in
    rw (r.1, r.2)
    (c.in_err-mark_from.ensures.answer (set_of n _) (close _ _) (equals _) refl (λ w. refl)
    ∙ at_done (set_of n _) _ _ _ form (c.word_ahead.ensures.some _ c.in_ok-i.ensures.ok_part) (close _ _) (sym (rw c.in_ok-f.ensures.ok_part at (c.form_word.ensures (set_of n c.args.head)))))

pub returns : goal.returns
unfolding form_then then outcome typeset_turn typeset_end form_word
returns c = λ n.
    c.in_ok-mark_from.ensures.answer (set_of n _) (close _ _) (equals _) refl (λ w. refl)
    ∙ at_done (set_of n _) _ _ _ form (c.word_ahead.ensures.some _ c.in_ok-i.ensures.ok_part) (close _ _) (sym (rw c.in_ok-f.ensures.ok_part at (c.form_word.ensures (set_of n c.args.head))))
