-- The function `first_line` meets its contract. Assumes nothing.
use Rattle.reading.proofs.RowCounts.{first-none, first-pages, first-sequential}
use Rattle.reading.proofs.taxa.first_line.Goals as goal

pub returns-then-not-interleave : goal.returns-then-not-interleave
returns-then-not-interleave c = first-sequential _ _ _ _ c.if-not-interleave.true

pub returns-then-taxa-eq0 : goal.returns-then-taxa-eq0
returns-then-taxa-eq0 c = first-none _ _ _ _ c.if-not-interleave.false c.if-taxa-eq0.true

pub returns : goal.returns
returns c = first-pages _ _ _ _ c.if-not-interleave.false c.if-taxa-eq0.false
