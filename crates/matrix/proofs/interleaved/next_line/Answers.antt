-- The function `next_line` meets its contract. Assumes nothing.
use Rattle.matrix.proofs.LineLaws.{line-begins}
use mathlib.Core.Path.{refl}
use Rattle.matrix.proofs.interleaved.next_line.Goals as goal

pub returns : goal.returns
returns c = rw c.skip_newlines.ensures (line-begins _ _ _ _ _ refl)
