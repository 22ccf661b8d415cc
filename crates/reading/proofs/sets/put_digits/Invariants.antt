-- The function `put_digits` meets its contract: a turn puts a mark and a digit. The measure is what is left of the states. Assumes nothing.
use Rattle.reading.proofs.WholePuts.{DigitsLeft}
use Rattle.reading.proofs.sets.put_digits.Given as goal

abbrev pub invariant-loop-i : goal.invariant-loop-i
invariant-loop-i l = DigitsLeft l.codes l.text l.from l.end l.initial.buffer l.n l.letter l.buffer l.at l.mark l.i
