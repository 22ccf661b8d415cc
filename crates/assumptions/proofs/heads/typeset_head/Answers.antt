-- The function `typeset_head` meets its contract. Assumes nothing.
use Rattle.std.proofs.lemmas.Result.{err_from_is_err_and}
use Rattle.assumptions.proofs.TypesetWalks.{equals-turn}
use Rattle.assumptions.specs.TypesetWalk.{form_then, set_of, after_equals}
use Rattle.block.specs.Typeset.{equals, typeset_end}
use mathlib.Core.Path.{refl, ◌∙◌}
use Rattle.block.specs.Outcome.{outcome, then}
use Rattle.assumptions.proofs.heads.typeset_head.Goals as goal

pub returns-in_err-i : goal.returns-in_err-i
unfolding then outcome form_then
returns-in_err-i c = λ n.
    let r = err_from_is_err_and c.from_residual.result c.from_residual.ensures.1 in
    rw (r.1, r.2) (c.in_err-i.ensures n)

pub returns-in_err-f : goal.returns-in_err-f
unfolding then outcome form_then
returns-in_err-f c = λ n.
    let r = err_from_is_err_and c.from_residual-in_err-f.result c.from_residual-in_err-f.ensures.1 in
    rw (r.1, r.2) (c.in_err-f.ensures n) ∙ c.in_ok-i.ensures n

pub returns-in_err-mark_from : goal.returns-in_err-mark_from
unfolding then outcome form_then typeset_end set_of
returns-in_err-mark_from c = λ n.
    let r = err_from_is_err_and c.from_residual-in_err-mark_from.result c.from_residual-in_err-mark_from.ensures.1 in
    rw (r.1, r.2) (c.in_err-mark_from.ensures.answer (set_of n _) (equals _) (after_equals n _) refl (equals-turn n _ _)) ∙ c.in_ok-f.ensures n ∙ c.in_ok-i.ensures n

pub returns : goal.returns
unfolding then outcome form_then typeset_end set_of
returns c = λ n. c.in_ok-mark_from.ensures.answer (set_of n _) (equals _) (after_equals n _) refl (equals-turn n _ _) ∙ c.in_ok-f.ensures n ∙ c.in_ok-i.ensures n
