-- The function `name_table` meets its contract. Assumes nothing.
use Rattle.slots.proofs.FillingLaws.{cleared-then}
use Rattle.slots.proofs.filling.name_table.Goals as goal

pub returns : goal.returns
returns c =
    let e = c.free_table-table.ensures in
    (cleared-then _ _ _ _ _ e.0 e.1.ahead c.begin_trie.ensures, e.1)
