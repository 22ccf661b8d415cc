-- The function `parse_typeset` meets its contract. Assumes nothing.
use Rattle.std.proofs.lemmas.Result.{err_from_is_err_and}
use Rattle.assumptions.proofs.TypesetLists.{typeset-whole}
use Rattle.assumptions.specs.TypesetWalk.{form_then, after_equals}
use Rattle.block.specs.Judged.{judged}
use mathlib.Core.Path.{◌∙◌}
use Rattle.assumptions.proofs.typeset.parse_typeset.Goals as goal

pub returns-in_err-form-clause-answer : goal.returns-in_err-form-clause-answer
unfolding form_then judged
returns-in_err-form-clause-answer c =
    let r = err_from_is_err_and c.from_residual.result c.from_residual.ensures.1 in
    rw (r.1, r.2) (c.in_err-form.ensures c.args.characters ∙ typeset-whole _ _ _ _ _ _)

pub returns-in-Standard-clause-answer : goal.returns-in-Standard-clause-answer
unfolding form_then after_equals
returns-in-Standard-clause-answer c = c.standard.ensures.answer ∙ rw c.in-Standard.is at (c.in_ok-form.ensures c.args.characters) ∙ typeset-whole _ _ _ _ _ _

pub returns-in-Vector-clause-answer : goal.returns-in-Vector-clause-answer
unfolding form_then after_equals
returns-in-Vector-clause-answer c = c.vector.ensures.answer ∙ rw c.in-Vector.is at (c.in_ok-form.ensures c.args.characters) ∙ typeset-whole _ _ _ _ _ _
