-- The function `lists` meets its contract. Assumes nothing.
use Rattle.std.proofs.lemmas.Result.{err_from_is_err_and}
use Rattle.assumptions.proofs.TypesetLists.{lists-turn, lists-end, lists-over}
use Rattle.block.specs.Judged.{judged}
use mathlib.Core.Path.{refl}
use Rattle.assumptions.proofs.typeset.lists.Goals as goal

pub loop-j-preserved : goal.loop-j-preserved
loop-j-preserved c = let one = c.one_list in lists-turn _ _ _ _ _ _ _ c.requires.0 _ _ c.loop-j.invariant _ _ c.in_ok-j.ensures.answer c.in-Some.j (rw c.in-Some.is) one.auto.work c.in_ok-j.ensures.front

pub returns-in_err-j-clause-answer : goal.returns-in_err-j-clause-answer
unfolding judged
returns-in_err-j-clause-answer c =
    let r = err_from_is_err_and c.from_residual.result c.from_residual.ensures.1 in
    rw (r.1, r.2) (lists-over _ _ _ _ _ _ _ c.requires.0 _ _ c.loop-j.invariant _ _ c.in_err-j.ensures.answer _ refl)

pub returns-clause-answer : goal.returns-clause-answer
unfolding judged
returns-clause-answer c = lists-end _ _ _ _ _ _ _ c.requires.0 _ _ c.loop-j.invariant _ _ c.in_ok-j.ensures.answer (rw c.in_default.is)
