-- The function `index_rows` meets its contract: a turn puts one row into the table. Assumes nothing.
use Rattle.matrix.proofs.IndexLaws.{Indexing}
use Rattle.matrix.proofs.index.index_rows.Given as goal

abbrev pub invariant-loop-k : goal.invariant-loop-k
invariant-loop-k l = Indexing l.text l.initial.work l.rows.at l.rows.count l.rows.table l.work l.k
