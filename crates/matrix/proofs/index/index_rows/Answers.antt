use Rattle.matrix.proofs.IndexLaws.{indexing-turn}
use mathlib.Core.Path.{refl}
use Rattle.matrix.proofs.index.index_rows.Goals as goal

pub loop-k-preserved : goal.loop-k-preserved
loop-k-preserved c =
    indexing-turn _ _ _ _ _ c.requires c.loop-k.invariant c.loop-k-test.true (c.row_name-s.ensures c.loop-k.k refl) c.insert_row.ensures
