-- The function `put_digits` meets its contract: a turn stores two digits more. The measure is the rest of the number. Assumes nothing.
use Rattle.emit.proofs.DigitsStored.{Storing}
use Rattle.emit.proofs.put_digits.Given as goal

abbrev pub invariant-loop-rest : goal.invariant-loop-rest
invariant-loop-rest l = Storing l.initial.buffer l.n l.value l.buffer l.rest l.at

abbrev pub decreases-loop-rest : goal.decreases-loop-rest
decreases-loop-rest l = l.rest
