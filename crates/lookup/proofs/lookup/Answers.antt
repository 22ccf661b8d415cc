-- The function `lookup` meets its contract: the stretch lies within the record, and is lent from it. Assumes nothing.
use Rattle.lookup.proofs.LookLaws.{none-handed, part-handed}
use mathlib.Core.Path.{refl}
use Rattle.lookup.proofs.lookup.Goals as goal

pub returns-in-Ok : goal.returns-in-Ok
returns-in-Ok c = part-handed c.in-Ok.ensures refl refl

pub returns-in-Err : goal.returns-in-Err
returns-in-Err c = none-handed c.in-Err.ensures c.refusal_number.ensures refl refl
