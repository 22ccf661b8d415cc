-- The function `bits_of` meets its contract. Assumes nothing.
use Rattle.naming.specs.Sifting.{bits_of}
use Rattle.naming.proofs.filter.bits_of.Goals as goal

pub returns : goal.returns
unfolding bits_of
returns c = rw (c.bit.ensures, c.bit-2.ensures)
