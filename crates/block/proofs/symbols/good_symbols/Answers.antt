-- The function `good_symbols` meets its contract. Assumes nothing.
use Rattle.block.proofs.GoodSymbols.{too-many, all-good}
use Rattle.block.proofs.symbols.good_symbols.Goals as goal

pub returns-then-f-gt-MOST : goal.returns-then-f-gt-MOST
returns-then-f-gt-MOST c = too-many _ _ (c.of-f.ensures.many c.if-f-gt-MOST.true)

pub returns : goal.returns
returns c = rw (c.all_differ.ensures, c.all_valid.ensures, c.states.ensures.0, c.dna_options.ensures) (all-good _ _ _ (c.of-f.ensures.few c.if-f-gt-MOST.false))
