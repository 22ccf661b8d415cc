-- The function `no_name` meets its contract. Assumes nothing.
use Rattle.judging.proofs.NameRests.{name-none}
use mathlib.Core.Path.{refl}
use Rattle.judging.proofs.names.no_name.Goals as goal

pub returns : goal.returns
returns c = rw c.open.ensures (name-none _ refl refl refl)
