-- The function `arrange_names` meets its contract: a turn stores the row of one name. Assumes nothing.
use Rattle.matrix.proofs.ArrangeWalk.{Arranging}
use Rattle.matrix.specs.Lines.{stored}
use Rattle.matrix.specs.OrderHeld.{all_below}
use Rattle.matrix.specs.RowIndex.{Indexed}
use Rattle.matrix.proofs.order.arrange_names.Given as goal

abbrev pub invariant-loop-i : goal.invariant-loop-i
invariant-loop-i l = Arranging l.text l.initial.work l.rows.at l.rows.count l.from l.to l.at l.head l.work l.i l.k × (all_below l.at (stored l.initial.work l.rows.at l.rows.count) → Indexed l.text l.work l.rows.at l.rows.count l.rows.table)
