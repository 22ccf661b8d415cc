-- The function `put_step` meets its contract, by whether a set is open. Assumes nothing.
use Rattle.reading.specs.RowWalk.{one_word}
use mathlib.Core.Path.{refl}
use Rattle.reading.proofs.lines.put_step.Goals as goal

pub returns-in-Some : goal.returns-in-Some
returns-in-Some c = one_word refl (c.put_within.ensures c.in-Some.is)
