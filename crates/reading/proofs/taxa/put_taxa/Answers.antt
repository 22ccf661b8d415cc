-- The function `put_taxa` meets its contract: the rows as they came, or those of the declared names. Assumes nothing.
use Rattle.reading.proofs.HeldRows.{taxa-none, taxa-words}
use Rattle.reading.proofs.taxa.put_taxa.Goals as goal

pub returns-in-None : goal.returns-in-None
returns-in-None c =
    let h = c.args.matrix.held in
    record { kept = c.put_rows.ensures.kept; put = λ told. taxa-none _ _ _ h c.in-None.is (c.put_rows.ensures.put told) }

pub returns-in-Some : goal.returns-in-Some
returns-in-Some c =
    let h = c.args.matrix.held in
    record { kept = c.put_declared.ensures.kept; put = λ told. taxa-words _ _ _ h _ _ c.in-Some.is (c.put_declared.ensures.put told) }
