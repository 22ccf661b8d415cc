-- The function `forms_agree` meets its contract: the first refusal of the calls, or what the comparison of the forms says. Assumes nothing.
use Rattle.std.proofs.lemmas.Result.{err_from_is_err_and}
use Rattle.std.proofs.lemmas.Bool.Decides.{Decides-eqb}
use Rattle.std.proofs.lemmas.Slice.Eq.{slice_eq-Decides}
use Rattle.demands.proofs.ApartLaws.{first-refused, second-refused, both-compared, told-by}
use Rattle.demands.proofs.FormedLaws.{formed-within}
use lib.Seq.{length-take-le}
use mathlib.Core.Path.{sym}
use Rattle.demands.proofs.forms_agree.Goals as goal

pub slice_bounds-eq-end : goal.slice_bounds-eq-end
slice_bounds-eq-end c = formed-within _ _ _ _ _ _ _ _ c.form_of.ensures _ c.in_ok-n.was

pub slice_bounds-eq-end-2 : goal.slice_bounds-eq-end-2
slice_bounds-eq-end-2 c = sym (length-take-le _ _ (formed-within _ _ _ _ _ _ _ _ c.form_of.ensures _ c.in_ok-n.was))

pub slice_bounds-eq-end-3 : goal.slice_bounds-eq-end-3
slice_bounds-eq-end-3 c = formed-within _ _ _ _ _ _ _ _ c.form_of-2.ensures _ c.in_ok-m.was

pub slice_bounds-eq-end-4 : goal.slice_bounds-eq-end-4
slice_bounds-eq-end-4 c = sym (length-take-le _ _ (formed-within _ _ _ _ _ _ _ _ c.form_of-2.ensures _ c.in_ok-m.was))

pub returns : goal.returns
returns c =
    both-compared _ _ _ _ _ _ _ _ _ _ c.form_of.ensures _ c.in_ok-n.was _ _ _ _ c.form_of-2.ensures _ c.in_ok-m.was _ (told-by _ (slice_eq-Decides Decides-eqb _ _ _ c.eq.ensures))

pub returns-in_err-m : goal.returns-in_err-m
returns-in_err-m c =
    let p = err_from_is_err_and c.from_residual-in_err-m.result c.from_residual-in_err-m.ensures.1 in
    rw (p.1, p.2) (second-refused _ _ _ _ _ _ _ _ _ _ c.form_of.ensures _ c.in_ok-n.was _ _ _ _ c.form_of-2.ensures _ _ c.in_err-m.was)

pub returns-in_err-n : goal.returns-in_err-n
returns-in_err-n c =
    let p = err_from_is_err_and c.from_residual.result c.from_residual.ensures.1 in
    rw (p.1, p.2) (first-refused _ _ _ _ _ _ _ _ _ _ c.form_of.ensures _ _ c.in_err-n.was)
