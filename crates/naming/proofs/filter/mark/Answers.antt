-- The function `mark` meets its contract. Assumes nothing.
use Rattle.naming.proofs.SiftLaws.{marks-both}
use Rattle.naming.specs.Sifting.{other_of}
use Rattle.naming.proofs.filter.mark.Goals as goal

pub returns : goal.returns
unfolding other_of
returns c =
    marks-both _ _ _ _ c.bits_of.ensures c.bits_of-2.ensures c.set_bits-first.ensures c.set_bits-second.ensures
