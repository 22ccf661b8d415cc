-- The function `decimal_at` meets its contract: a turn compares one digit. Assumes nothing.
use Rattle.judging.proofs.NumberLaws.{DigitsLeft}
use Rattle.judging.proofs.numbers.decimal_at.Given as goal

abbrev pub invariant-loop-k : goal.invariant-loop-k
invariant-loop-k l = DigitsLeft l.source l.i l.value l.k l.rest
