-- The function `compare_by` meets its contract. Assumes nothing.
use Rattle.naming.proofs.SiftedRows.{compared-clash, compared-few, compared-many}
use Rattle.std.proofs.lemmas.Result.{err_from_is_err_and}
use mathlib.Core.Path.{refl}
use Rattle.naming.proofs.filter.compare_by.Goals as goal

pub returns-in_err-count : goal.returns-in_err-count
returns-in_err-count c =
    let p = err_from_is_err_and c.from_residual.result c.from_residual.ensures.1 in
    rw (p.1, p.2) (compared-clash _ _ _ _ _ _ _ _ _ c.in_err-count.ensures _ refl)

pub returns-then-few_known : goal.returns-then-few_known
returns-then-few_known c =
    compared-few _ _ _ _ _ _ _ _ _ c.in_ok-count.ensures _ refl c.few_known.ensures c.if-few_known.true

pub returns : goal.returns
returns c =
    compared-many _ _ _ _ _ _ _ _ _ c.in_ok-count.ensures _ refl c.few_known.ensures c.if-few_known.false
