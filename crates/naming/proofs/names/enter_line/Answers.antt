-- The function `enter_line` meets its contract. Assumes nothing.
use Rattle.naming.proofs.EntryLaws.{line-sought, line_known, line-entered}
use native.Mathlib.Omega.{arith}
use Rattle.naming.proofs.names.enter_line.Goals as goal

pub found_line-requires : goal.found_line-requires
found_line-requires c =
    let p = c.requires in
    line-sought _ _ _ _ _ _ (omega (arith, p.room)) p.kept c.line_slot-from.ensures

pub returns-then-found_line : goal.returns-then-found_line
returns-then-found_line c =
    line_known _ _ _ _ _ _ c.requires _ c.line_slot-from.ensures c.found_line.ensures c.if-found_line.true

pub returns : goal.returns
returns c =
    line-entered _ _ _ _ _ _ c.requires _ c.line_slot-from.ensures _ c.fill_slot.ensures c.found_line.ensures c.if-found_line.false
