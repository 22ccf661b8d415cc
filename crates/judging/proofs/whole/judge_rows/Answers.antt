-- The function `judge_rows` meets its contract: the rows do not stand there, there are too many symbols beside a gap, names are alike, or the characters are judged. Assumes nothing.
use mathlib.Core.Path.{refl}
use Rattle.judging.proofs.RecordParts.{judged-alike, judged-no-rows, judged-no-sign, rows-there}
use Rattle.judging.proofs.whole.judge_rows.Goals as goal

pub returns-in_err-j : goal.returns-in_err-j
returns-in_err-j c = rw c.from_residual.ensures (λ told. judged-no-rows _ _ _ told _ c.in_err-j.ensures refl)

pub returns-then-gaps-head : goal.returns-then-gaps-head
returns-then-gaps-head c = λ told. judged-no-sign _ _ _ told _ _ (rows-there _ _ _ told _ c.in_ok-j.ensures _ _ refl) c.if-gaps-head.true

pub returns-then-not-names_differ : goal.returns-then-not-names_differ
returns-then-not-names_differ c = λ told. judged-alike _ _ _ told _ _ (rows-there _ _ _ told _ c.in_ok-j.ensures _ _ refl) (rw c.if-not-names_differ.true at c.names_differ.ensures)

pub returns : goal.returns
returns c = λ told. c.judge_characters.ensures told (record { rows = rows-there _ _ _ told _ c.in_ok-j.ensures _ _ refl; room = c.if-gaps-head.false; differ = rw c.if-not-names_differ.false at c.names_differ.ensures })
