-- The function `leading` meets its contract. A turn takes one digit. Assumes nothing.
use Rattle.judging.proofs.NumberLaws.{Valuing}
use Rattle.judging.proofs.numbers.leading.Given as goal

abbrev pub invariant-loop-at : goal.invariant-loop-at
invariant-loop-at l = Valuing l.source l.i l.value l.at
