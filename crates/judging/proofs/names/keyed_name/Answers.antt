-- The function `keyed_name` meets its contract: the key stands there, and then the name is judged; or it does not. Assumes nothing.
use mathlib.Core.Path.{refl}
use Rattle.judging.proofs.RowsTold.{name-keyed, name-no-key}
use Rattle.judging.proofs.names.keyed_name.Goals as goal

pub returns-in_err-j : goal.returns-in_err-j
returns-in_err-j c = rw c.from_residual.ensures (name-no-key _ _ _ _ c.in_err-j.ensures refl)

pub returns : goal.returns
returns c = name-keyed _ _ _ _ c.in_ok-j.ensures _ refl _ c.name_line.ensures
