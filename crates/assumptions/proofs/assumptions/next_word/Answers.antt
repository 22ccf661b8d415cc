-- The function `next_word` meets its contract. Assumes nothing.
use Rattle.assumptions.proofs.NextWordLaws.{next_word}
use mathlib.Core.Path.{refl}
use Rattle.assumptions.proofs.assumptions.next_word.Goals as goal

pub returns : goal.returns
returns c = rw c.skip_newlines.ensures (next_word _ _ _ _ _ refl)
