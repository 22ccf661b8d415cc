-- The function `more_labels` meets its contract. Assumes nothing.
use Rattle.commands.proofs.LabelKindLaws.{more-one, more-two, more-three}
use native.Mathlib.Omega.{arith}
use Rattle.commands.proofs.data.more_labels.Goals as goal

pub returns-in-0 : goal.returns-in-0
returns-in-0 c =
    more-one _ _ c.in-0.is

pub returns-in-1 : goal.returns-in-1
returns-in-1 c =
    more-two _ _ c.in-1.is

pub returns-in_default : goal.returns-in_default
returns-in_default c =
    more-three _ _ (omega arith)
