-- The function `mark_word` meets its contract. Assumes nothing.
use Rattle.matrix.specs.Taken.{states_taken}
use Rattle.reading.proofs.WordCells.{word_none, word_some}
use Rattle.reading.specs.CodedCells.{marked, topped}
use mathlib.Core.Path.{sym, ◌∙◌}
use Rattle.reading.proofs.sets.mark_word.Goals as goal

pub returns-then-not-has_cells : goal.returns-then-not-has_cells
unfolding states_taken marked topped
returns-then-not-has_cells c = let e = word_none c.args.codes.now _ (sym c.has_cells.ensures ∙ c.if-not-has_cells.true) in record { grown = rw e; within = rw e }

pub returns : goal.returns
returns c =
    let e = word_some _ _ _ _ c.start_of.ensures c.args.codes.now (sym c.has_cells.ensures ∙ c.if-not-has_cells.false) in
    record { grown = rw e at c.mark_states.ensures.grown; within = rw e at c.mark_states.ensures.within }
