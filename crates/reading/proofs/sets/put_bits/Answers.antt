-- The function `put_bits` meets its contract: the marks of the four states are those of its bits. Assumes nothing.
use Rattle.reading.specs.CodedCells.{marks}
use Rattle.reading.proofs.sets.put_bits.Goals as goal

pub returns : goal.returns
unfolding marks
returns c = c.put_set.ensures
