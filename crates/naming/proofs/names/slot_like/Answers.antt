-- The function `slot_like` meets its contract. Assumes nothing.
use Rattle.naming.proofs.EntryLaws.{slot-none, slot-number, slot-compared}
use native.Mathlib.Omega.{arith}
use Rattle.naming.proofs.names.slot_like.Goals as goal

pub returns-then-row-count : goal.returns-then-row-count
returns-then-row-count c = slot-none _ _ _ _ c.requires _ c.if-row-count.true

pub overflow_sub-row : goal.overflow_sub-row
overflow_sub-row c = let a = c.args in omega (arith, (slot-number a.source.now a.at a.places.now a.count.0 c.requires a.row.0 c.if-row-count.false).0)

pub offset_bounds-places-row : goal.offset_bounds-places-row
offset_bounds-places-row c = let a = c.args in let h = slot-number a.source.now a.at a.places.now a.count.0 c.requires a.row.0 c.if-row-count.false in omega (arith, h.0, h.1, c.requires)

pub bounds-places-row : goal.bounds-places-row
bounds-places-row c = let a = c.args in let h = slot-number a.source.now a.at a.places.now a.count.0 c.requires a.row.0 c.if-row-count.false in omega (arith, h.0, h.1, c.requires)

pub returns : goal.returns
returns c = slot-compared _ _ _ _ c.requires _ c.if-row-count.false _ c.lines_alike.ensures
