-- The function `put_word` meets its contract. Assumes nothing.
use Rattle.lexer.proofs.WordsTold.{stop-told}
use Rattle.reading.proofs.RowPieces.{row-none}
use Rattle.reading.proofs.WordCells.{plain-put, word_none, word_some}
use mathlib.Core.Path.{sym, ◌∙◌}
use native.Mathlib.Omega.{arith}
use Rattle.reading.proofs.cells.put_word.Goals as goal

pub put_run-requires : goal.put_run-requires
put_run-requires c =
    let h = c.if-start-end.true in
    let within = (stop-told _ _ _ c.word_stop-end.ensures h).within in
    (omega arith, omega arith)

pub returns-then-start-end : goal.returns-then-start-end
returns-then-start-end c =
    plain-put _ _ _ _ c.start_of-start.ensures _ _ (stop-told _ _ _ c.word_stop-end.ensures c.if-start-end.true) c.put_run.ensures

pub returns-then-not-has_cells : goal.returns-then-not-has_cells
returns-then-not-has_cells c = rw (word_none _ _ (sym c.has_cells.ensures ∙ c.if-not-has_cells.true)) row-none

pub returns : goal.returns
returns c =
    rw (word_some _ _ _ _ c.start_of-start.ensures _ (sym c.has_cells.ensures ∙ c.if-not-has_cells.false)) at c.put_cells.ensures
