-- The function `sequential_turn` meets its contract, by where the matrix is. Assumes nothing.
use Rattle.matrix.specs.SequentialShape.{cells_of_row, last, turn_shape}
use borrow.Author.Rules.{rules}
use mathlib.Core.Path.{refl}
use Rattle.matrix.proofs.matrix.sequential_turn.Goals as goal

pub row_turn-requires : goal.row_turn-requires
unfolding cells_of_row
row_turn-requires c = (search rules, rw c.in-Some.is at c.requires.1)

pub returns-in-None : goal.returns-in-None
unfolding turn_shape
returns-in-None c = rw c.in-None.is (last refl c.row_begins.ensures)
