-- The function `row_found` meets its contract: a turn passes one slot, and behind the window the trie is asked. Assumes nothing.
use Rattle.matrix.proofs.IndexLaws.{Searched}
use Rattle.matrix.proofs.index.row_found.Given as goal

abbrev pub invariant-loop-p : goal.invariant-loop-p
invariant-loop-p l = Searched l.text l.work l.rows.at l.rows.count l.i l.first l.stop l.rows.table.end l.p l.found
