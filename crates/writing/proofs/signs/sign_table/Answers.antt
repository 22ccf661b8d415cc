use Rattle.writing.proofs.SymbolsTaken.{table-signed}
use Rattle.writing.proofs.signs.sign_table.Goals as goal

pub returns : goal.returns
returns c = table-signed _ _ _ _ _ _ c.loop-i.invariant.1 c.loop-i-test.false
