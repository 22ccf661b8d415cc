use Rattle.lexer.proofs.NextBytes.{front-left}
use Rattle.slots.proofs.ReachLaws.{reach-whole, reach-more, reach-part}
use Rattle.slots.proofs.TrieLaws.{leads-same}
use Rattle.slots.specs.Trie.{letters_left}
use native.Mathlib.Omega.{arith}
use Rattle.slots.proofs.trie.name_reach.Goals as goal

pub loop-n-init : goal.loop-n-init
loop-n-init c = leads-same _ _ _ _ _

pub branch_of-requires : goal.branch_of-requires
branch_of-requires c = c.letter_at-l.ensures.some

pub returns-then-l-eq-END : goal.returns-then-l-eq-END
unfolding letters_left
returns-then-l-eq-END c =
    rw (← front-left _ _ _ c.text_start-c.ensures)
    (reach-whole c.loop-n.invariant c.letter_at-l.ensures c.if-l-eq-END.true (rw c.in-Behind.is at c.branch_of.ensures))

pub loop-n-smaller : goal.loop-n-smaller
loop-n-smaller c =
    let m = c.letter_at-l.ensures.more c.if-l-eq-END.false in
    omega (arith, m.ahead, m.within)

pub loop-n-preserved : goal.loop-n-preserved
loop-n-preserved c =
    reach-more c.loop-n.invariant c.letter_at-l.ensures c.if-l-eq-END.false (rw c.in-Behind.is at c.branch_of.ensures)

pub returns-in-Last : goal.returns-in-Last
unfolding letters_left
returns-in-Last c =
    rw (← front-left _ _ _ c.text_start-c.ensures)
    (reach-part c.loop-n.invariant c.letter_at-l.ensures (rw c.in-Last.is at c.branch_of.ensures))
