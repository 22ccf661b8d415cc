-- The function `keyed_number` meets its contract: the key stands there, and then the number is judged; or it does not. Assumes nothing.
use mathlib.Core.Path.{refl}
use Rattle.judging.proofs.LinesTold.{number-keyed, number-no-key}
use Rattle.judging.proofs.numbers.keyed_number.Goals as goal

pub returns-in_err-j : goal.returns-in_err-j
returns-in_err-j c = rw c.from_residual.ensures (number-no-key _ _ _ _ c.in_err-j.ensures refl)

pub returns : goal.returns
returns c = number-keyed _ _ _ _ c.in_ok-j.ensures _ refl _ c.number_line.ensures
