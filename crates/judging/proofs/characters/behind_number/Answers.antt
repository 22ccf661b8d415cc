-- The function `behind_number` meets its contract: the lines of a character without labels stand there, or its label and the lines behind; or no label does. Assumes nothing.
use mathlib.Core.Path.{refl}
use Rattle.judging.proofs.CharactersTold.{lines-unlabelled, lines-whole}
use Rattle.judging.proofs.PlainLines.{plain_lines}
use Rattle.judging.proofs.characters.behind_number.Goals as goal

pub returns-in-Some : goal.returns-in-Some
returns-in-Some c = λ small. plain_lines _ _ _ small _ c.plain_lines.ensures _ _ c.in-Some.is

pub returns-in_err-l : goal.returns-in_err-l
returns-in_err-l c = rw c.from_residual.ensures (λ small. lines-unlabelled _ _ _ _ c.in_err-l.ensures refl)

pub returns : goal.returns
returns c = λ small. lines-whole _ _ _ _ c.in_ok-l.ensures _ _ refl _ (c.behind_label.ensures small)
