-- The function `form_of` meets its contract: what read answers is a length, and the record is written; or a refusal. Assumes nothing.
use Rattle.std.proofs.lemmas.Result.{err_from_is_err_and}
use Rattle.demands.proofs.FormedLaws.{read-within, record-formed, refusal-formed}
use lib.Seq.{length-take-le}
use mathlib.Core.Path.{sym}
use Rattle.demands.proofs.form_of.Goals as goal

pub slice_bounds-write-end : goal.slice_bounds-write-end
slice_bounds-write-end c = read-within _ _ _ _ _ _ c.read.ensures _ c.in_ok-n.was

pub slice_bounds-write-end-2 : goal.slice_bounds-write-end-2
slice_bounds-write-end-2 c = sym (length-take-le _ _ (read-within _ _ _ _ _ _ c.read.ensures _ c.in_ok-n.was))

pub returns : goal.returns
returns c =
    record-formed _ _ _ _ _ _ c.read.ensures _ _ c.in_ok-n.was _ _ c.write.ensures

pub returns-in_err-n : goal.returns-in_err-n
returns-in_err-n c =
    let p = err_from_is_err_and c.from_residual.result c.from_residual.ensures.1 in
    rw (p.1, p.2) (refusal-formed _ _ _ _ _ _ c.read.ensures _ _ _ c.in_err-n.was)
