-- The function `count_taxa` meets its contract. Assumes nothing.
use Rattle.reading.proofs.TaxaCounts.{count-names, count-rows}
use Rattle.reading.proofs.taxa.count_taxa.Goals as goal

pub returns-in-None : goal.returns-in-None
returns-in-None c = count-rows _ _ c.args.held _ c.in-None.is c.row_count.ensures

pub returns-in-Some : goal.returns-in-Some
returns-in-Some c = count-names _ _ c.args.held _ _ _ c.in-Some.is c.count_words.ensures c.min.ensures
