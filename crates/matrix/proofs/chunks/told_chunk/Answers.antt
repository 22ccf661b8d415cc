-- The function `told_chunk` meets its contract: all symbols are cells, or one is none. Assumes nothing.
use Rattle.matrix.proofs.SetTurns.{all-shape, part-size, wrong-shape}
use Rattle.block.specs.Outcome.{outcome}
use mathlib.Core.Path.{sym, ◌∙◌}
use Rattle.matrix.proofs.chunks.told_chunk.Goals as goal

pub returns-then-all_cells : goal.returns-then-all_cells
unfolding outcome
returns-then-all_cells c = sym (all-shape _ _ _ _ _ (part-size _ _ _ c.requires.1) (sym c.all_cells.ensures ∙ c.if-all_cells.true))

pub returns : goal.returns
unfolding outcome
returns c = sym (wrong-shape _ _ _ _ (sym c.all_cells.ensures ∙ c.if-all_cells.false))
