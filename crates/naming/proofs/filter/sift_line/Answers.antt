-- The function `sift_line` meets its contract. Assumes nothing.
use Rattle.naming.proofs.SiftedRows.{sift-new, sift-crowded, sift-twice, sift-entered}
use mathlib.Core.Path.{refl}
use Rattle.naming.proofs.filter.sift_line.Goals as goal

pub returns-then-mark : goal.returns-then-mark
returns-then-mark c =
    sift-new _ _ _ _ _ _ _ _ c.line_hash.ensures c.mark.ensures c.if-mark.true c.requires.1 c.requires.2

pub returns-then-places-last : goal.returns-then-places-last
returns-then-places-last c = sift-crowded _ _ _ _ _ _ _ _ c.line_hash.ensures c.mark.ensures

pub returns-then-enter_line : goal.returns-then-enter_line
returns-then-enter_line c =
    sift-twice _ _ _ _ _ _ _ _ c.line_hash.ensures c.mark.ensures _ _ c.enter_line.ensures c.if-enter_line.true

pub returns : goal.returns
returns c =
    sift-entered _ _ _ _ _ _ _ _ c.line_hash.ensures c.mark.ensures _ _ c.enter_line.ensures c.if-enter_line.false c.if-places-last.false _ refl
