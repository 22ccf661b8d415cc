-- The function `part_turn` meets its contract. Assumes nothing.
use Rattle.std.proofs.lemmas.Result.{err_from_is_err_and}
use Rattle.assumptions.proofs.ListTyped.{part-on, part-past, part-over}
use Rattle.block.specs.Outcome.{outcome}
use mathlib.Core.Path.{sym}
use Rattle.assumptions.proofs.characters.part_turn.Goals as goal

pub returns-in_err-item-clause-answer : goal.returns-in_err-item-clause-answer
unfolding outcome
returns-in_err-item-clause-answer c = λ p e rs ts g.
    let r = err_from_is_err_and c.from_residual.result c.from_residual.ensures.1 in
    rw (r.1, r.2) (part-over _ _ rs ts _ _ _ p g _ _ (sym (c.in_err-item.ensures p e)) _)

pub returns-in-On-clause-answer : goal.returns-in-On-clause-answer
unfolding outcome
returns-in-On-clause-answer c = λ p e rs ts g. part-on _ _ rs ts _ _ _ p g _ (rw c.in-On.is at (sym (c.in_ok-item.ensures p e)))

pub returns-in-Past-clause-answer : goal.returns-in-Past-clause-answer
unfolding outcome
returns-in-Past-clause-answer c = λ p e rs ts g. part-past _ _ rs ts _ _ _ p g _ _ _ _ (rw c.in-Past.is at (sym (c.in_ok-item.ensures p e))) c.type_next-twice.ensures.typed
