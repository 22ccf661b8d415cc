use Rattle.lexer.proofs.NextBytes.{yielded}
use Rattle.reading.proofs.MarkLaws.{marking-end, marking-start, marking-turn}
use native.Mathlib.Omega.{arith}
use Rattle.reading.proofs.sets.mark_states.Goals as goal

pub loop-b-init : goal.loop-b-init
loop-b-init c = marking-start _ _ _ _ c.text_start-c.ensures

pub loop-b-smaller : goal.loop-b-smaller
loop-b-smaller c =
    let y = (yielded _ _ _ c.next_byte.ensures).byte _ _ c.in-Some.is in
    omega (arith, y.ahead, y.within)

pub loop-b-preserved : goal.loop-b-preserved
loop-b-preserved c =
    marking-turn _ _ _ _ c.loop-b.invariant _ _ _ ((yielded _ _ _ c.next_byte.ensures).byte _ _ c.in-Some.is) c.entry_of.ensures c.mark_state-top.ensures.grown c.mark_state-top.ensures.within

pub returns : goal.returns
returns c = marking-end _ _ _ _ c.loop-b.invariant ((yielded _ _ _ c.next_byte.ensures).end c.in_default.is)
