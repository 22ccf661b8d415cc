-- The function `unique_names` meets its contract: a table is cleared, and the words are judged with it. Assumes nothing.
use Rattle.block.proofs.KeptNames.{cleared-judged}
use Rattle.block.proofs.names.unique_names.Goals as goal

pub returns : goal.returns
returns c =
    let made = c.name_table-table.ensures in
    cleared-judged c.requires.1 c.table_place-place.ensures.0 made.0 made.1 c.unique_by.ensures
