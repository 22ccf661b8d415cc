-- The function `entered_differ` meets its contract. Assumes nothing.
use Rattle.naming.proofs.EnteredRows.{entered-told}
use Rattle.naming.proofs.names.entered_differ.Goals as goal

pub returns : goal.returns
returns c = rw c.is_some.ensures (entered-told _ _ _ _ _ _ _ _ _ c.enter_names.ensures)
