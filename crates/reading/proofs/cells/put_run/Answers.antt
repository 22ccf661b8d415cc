-- The function `put_run` meets its contract: two parts of the cells. Assumes nothing.
use Rattle.reading.proofs.RunPieces.{part-both}
use Rattle.reading.proofs.cells.put_run.Goals as goal

pub returns : goal.returns
returns c =
    let s = c.put_short-next.ensures in
    part-both _ _ _ _ _ s.ahead s.within s.put c.put_rest.ensures
