use Rattle.naming.proofs.EnteredRows.{entering-start, entering-room, entering-twice, entering-turn, entering-end}
use Rattle.naming.proofs.names.enter_names.Goals as goal

pub loop-count-init : goal.loop-count-init
loop-count-init c = entering-start _ _ _ _ _ _ _

pub enter_line-requires : goal.enter_line-requires
enter_line-requires c =
    entering-room _ _ _ _ _ _ _ _ _ _ _ c.loop-count.invariant c.loop-count-test.true c.requires

pub returns-then-enter_line : goal.returns-then-enter_line
returns-then-enter_line c =
    entering-twice _ _ _ _ _ _ _ _ _ _ _ c.loop-count.invariant c.loop-count-test.true _ _ c.name_begin-name.ensures c.enter_line.ensures c.if-enter_line.true

pub loop-count-preserved : goal.loop-count-preserved
loop-count-preserved c =
    entering-turn _ _ _ _ _ _ _ _ _ _ _ c.loop-count.invariant c.loop-count-test.true _ _ c.name_begin-name.ensures c.enter_line.ensures c.if-enter_line.false c.next_row-here.ensures

pub returns : goal.returns
returns c = entering-end _ _ _ _ _ _ _ _ _ _ _ c.loop-count.invariant c.loop-count-test.false
