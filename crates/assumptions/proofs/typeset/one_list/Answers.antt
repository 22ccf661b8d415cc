-- The function `one_list` meets its contract. Assumes nothing.
use Rattle.std.proofs.lemmas.Result.{err_from_is_err_and}
use Rattle.assumptions.proofs.NextWordLaws.{missed}
use Rattle.assumptions.proofs.TypesetLists.{type-past, type-none, type-some}
use Rattle.assumptions.specs.ListCode.{list_then}
use Rattle.block.specs.Outcome.{outcome}
use mathlib.Core.Path.{◌∙◌}
use Rattle.assumptions.proofs.typeset.one_list.Goals as goal

pub returns-in_err-word-clause-answer : goal.returns-in_err-word-clause-answer
unfolding list_then
returns-in_err-word-clause-answer c = let p = missed c.word_ahead.ensures _ c.from_residual.ensures.1 c.in_err-word.ensures.value c.in_err-word.ensures.ok_part in rw p.0 (type-past _ _ _ _ _ _ _ p.1)

pub returns-in_err-o-clause-answer : goal.returns-in_err-o-clause-answer
unfolding list_then outcome
returns-in_err-o-clause-answer c =
    let r = err_from_is_err_and c.from_residual-in_err-o.result c.from_residual-in_err-o.ensures.1 in
    rw (r.1, r.2) (type-none _ _ _ _ _ _ _ _ (c.word_ahead.ensures.some _ c.in_ok-word.ensures.ok_part) _ c.in_err-o.ensures)

pub returns-clause-answer : goal.returns-clause-answer
unfolding outcome
returns-clause-answer c = c.list_from.ensures.answer _ ∙ type-some _ _ _ _ _ _ _ _ (c.word_ahead.ensures.some _ c.in_ok-word.ensures.ok_part) _ c.in_ok-o.ensures
