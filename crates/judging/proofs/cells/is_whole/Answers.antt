-- The function `is_whole` meets its contract. Assumes nothing.
use Rattle.judging.proofs.CellBytes.{byte-ends}
use borrow.Author.Tests.{ltb-true}
use Rattle.judging.proofs.cells.is_whole.Goals as goal

pub returns : goal.returns
returns c =
    let a = c.args in
    λ e. byte-ends a.symbols a.b c.index_of.result c.if-b-lt48.false c.if-d-gt63.false c.if-d-eq0.false c.index_of.ensures (ltb-true _ _ e)
