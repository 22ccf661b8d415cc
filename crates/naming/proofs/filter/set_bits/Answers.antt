-- The function `set_bits` meets its contract. Assumes nothing.
use Rattle.naming.proofs.SiftLaws.{bits-outside, bits-held, bits-new}
use Rattle.naming.proofs.filter.set_bits.Goals as goal

pub returns-then-words-at : goal.returns-then-words-at
returns-then-words-at c = bits-outside _ _ _ c.if-words-at.true

pub returns-then-new-old : goal.returns-then-new-old
returns-then-new-old c = bits-held _ _ _ c.if-new-old.true

pub returns : goal.returns
returns c = bits-new _ _ _ c.if-words-at.false c.if-new-old.false
