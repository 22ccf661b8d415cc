use Rattle.naming.proofs.OrderedRows.{holding-start, holding-twice, holding-turn, holding-end}
use Rattle.naming.proofs.LineLaws.{no_place}
use Rattle.naming.proofs.ordered.ordered_by.Goals as goal

pub loop-left-init : goal.loop-left-init
loop-left-init c = holding-start _ _ _ _ _

pub loop-left-preserved : goal.loop-left-preserved
loop-left-preserved c =
    holding-turn _ _ _ _ _ _ _ _ c.loop-left.invariant c.rows_at_once-count.ensures.0 c.rows_held.ensures _ c.rows_held.auto.places _ c.in-Some.is

pub returns-in_default : goal.returns-in_default
returns-in_default c =
    holding-twice _ _ _ _ _ _ _ _ c.loop-left.invariant c.rows_at_once-count.ensures.0 c.rows_held.ensures (no_place _ c.in_default.not-Some)

pub returns : goal.returns
returns c = holding-end _ _ _ _ _ _ _ _ c.loop-left.invariant c.loop-left-test.false
