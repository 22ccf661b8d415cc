use Rattle.emit.proofs.DigitsStored.{pair-first, pair-last}
use Rattle.emit.proofs.store_pair.Goals as goal

-- The function `store_pair` meets its contract. Assumes nothing.

pub returns : goal.returns
returns c = rw (c.last_digit.ensures, c.last_digit-2.ensures, pair-first, pair-last)
