-- The function `clear_types` meets its contract. Assumes nothing.
use Rattle.assumptions.proofs.TypesHeldLaws.{cleared}
use native.Mathlib.Omega.{arith}
use Rattle.assumptions.proofs.types.clear_types.Goals as goal

pub returns-clause-clear : goal.returns-clause-clear
returns-clause-clear c = cleared _ _ _ _ _ (omega arith) c.requires (c.fill.ensures.after (λ y e. e))
