-- The function `put_entry` meets its contract. Assumes nothing.
use Rattle.writing.proofs.EntryPuts.{entry-put}
use Rattle.writing.proofs.characters.put_entry.Goals as goal

pub returns : goal.returns
returns c = entry-put _ _ _ _ _ c.put_comma-m.ensures c.put-m.ensures c.put_decimal-m.ensures c.put_label-m.ensures c.put_states.ensures
