-- The function `row_count` meets its contract. Assumes nothing.
use Rattle.reading.proofs.RowCounts.{count-few, count_none, count-pages, count-sequential}
use Rattle.reading.proofs.taxa.row_count.Goals as goal

pub returns-then-not-interleave : goal.returns-then-not-interleave
returns-then-not-interleave c = count-sequential _ _ _ c.if-not-interleave.true

pub returns-then-lines-taxa : goal.returns-then-lines-taxa
returns-then-lines-taxa c = count-few _ _ _ c.if-not-interleave.false c.if-lines-taxa.true

pub returns-then-taxa-eq0 : goal.returns-then-taxa-eq0
returns-then-taxa-eq0 c = count_none _ _ _ c.if-not-interleave.false c.if-lines-taxa.false c.if-taxa-eq0.true

pub returns : goal.returns
returns c = count-pages _ _ _ c.if-not-interleave.false c.if-lines-taxa.false
