-- The function `fill_slot` meets its contract. Assumes nothing.
use Rattle.slots.proofs.FillingLaws.{filled-set, filled_none}
use native.Mathlib.Omega.{arith}
use Rattle.slots.proofs.filling.fill_slot.Goals as goal

pub offset_bounds-work-p : goal.offset_bounds-work-p
offset_bounds-work-p c = omega (arith, c.in-Some.ensures.1, c.requires.0)

pub bounds-work-p : goal.bounds-work-p
bounds-work-p c = omega (arith, c.in-Some.ensures.1, c.requires.0)

pub returns-in-Some : goal.returns-in-Some
returns-in-Some c =
    let found = c.in-Some.ensures in
    filled-set _ _ _ _ _ found.0 c.requires.1 found.1 (omega (arith, found.1, c.requires.0))

pub returns-in_default : goal.returns-in_default
returns-in_default c = filled_none _ _ _ _ c.in_default.ensures
