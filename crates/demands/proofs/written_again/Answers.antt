-- The function `written_again` meets its contract: what write answers is a length, and what was written is read; or a refusal. Assumes nothing.
use Rattle.demands.proofs.AgainLaws.{written-within, read_again}
use lib.Seq.{length-take-le}
use mathlib.Core.Path.{sym}
use Rattle.demands.proofs.written_again.Goals as goal

pub slice_bounds-read-end : goal.slice_bounds-read-end
slice_bounds-read-end c = written-within _ _ _ _ c.write.ensures _ c.in_ok-n.was

pub slice_bounds-read-end-2 : goal.slice_bounds-read-end-2
slice_bounds-read-end-2 c = sym (length-take-le _ _ (written-within _ _ _ _ c.write.ensures _ c.in_ok-n.was))

pub returns : goal.returns
returns c =
    read_again _ _ _ _ c.write.ensures _ c.in_ok-n.was _ _ _ _ _ c.read.ensures
