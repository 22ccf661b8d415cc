use Rattle.naming.proofs.OrderedRows.{inserting-start, inserting-twice, inserting-turn, inserting-end}
use Rattle.naming.proofs.ordered.insert_names.Goals as goal

pub loop-count-init : goal.loop-count-init
loop-count-init c = inserting-start _ _ _ _ _

pub returns-then-insert_line : goal.returns-then-insert_line
returns-then-insert_line c =
    inserting-twice _ _ _ _ _ _ _ _ c.loop-count.invariant c.loop-count-test.true _ c.name_begin-name.ensures c.insert_line.ensures c.if-insert_line.true

pub loop-count-preserved : goal.loop-count-preserved
loop-count-preserved c =
    inserting-turn _ _ _ _ _ _ _ _ c.loop-count.invariant c.loop-count-test.true _ c.name_begin-name.ensures c.insert_line.ensures c.if-insert_line.false c.insert_line.auto.places c.next_row-here.ensures

pub returns : goal.returns
returns c = inserting-end _ _ _ _ _ _ _ _ c.loop-count.invariant c.loop-count-test.false
