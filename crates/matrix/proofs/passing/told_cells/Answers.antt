-- The function `told_cells` meets its contract: a word, a whole set, or nothing. Assumes nothing.
use Rattle.lexer.proofs.WordsTold.{stop-told}
use Rattle.matrix.proofs.SetLaws.{closes-told}
use Rattle.matrix.proofs.SetTurns.{word-cells-told}
use Rattle.matrix.specs.SequentialShape.{set_told}
use mathlib.Core.Path.{sym, ◌∙◌}
use native.Mathlib.Omega.{arith}
use Rattle.matrix.proofs.passing.told_cells.Goals as goal

pub all_cells-requires : goal.all_cells-requires
all_cells-requires c =
    let within = (stop-told _ _ _ c.word_stop_by-end.ensures c.if-start-end.true).within in
    (omega arith, omega arith)

pub overflow_add-result : goal.overflow_add-result
overflow_add-result c =
    let within = (stop-told _ _ _ c.word_stop_by-end.ensures c.if-start-end.true).within in
    omega (arith, c.requires, c.well_formed)

pub returns-then-all_cells : goal.returns-then-all_cells
returns-then-all_cells c = word-cells-told _ _ _ _ _ _ c.start_of-start.ensures (stop-told _ _ _ c.word_stop_by-end.ensures c.if-start-end.true) _ _ (sym c.all_cells.ensures ∙ c.if-all_cells.true)

pub overflow_add-result-then-set_closes-ne0-2 : goal.overflow_add-result-then-set_closes-ne0-2
overflow_add-result-then-set_closes-ne0-2 c = let whole = (closes-told _ _ _ _ _ _ c.set_closes.ensures c.if-set_closes-ne0.true).whole in omega (arith, whole.room)

pub returns-then-set_closes-ne0 : goal.returns-then-set_closes-ne0
returns-then-set_closes-ne0 c = set_told (closes-told _ _ _ _ _ _ c.set_closes.ensures c.if-set_closes-ne0.true).whole
