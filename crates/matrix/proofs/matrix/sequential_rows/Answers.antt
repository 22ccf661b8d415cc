use Rattle.block.specs.Outcome.{outcome, done}
use Rattle.matrix.proofs.FaultLaws.{given-on}
use Rattle.matrix.proofs.SequentialWalk.{judged-full, judged-on, sequencing-end, sequencing-newline, sequencing-put, sequencing-refused, sequencing-start, turns-judged}
use Rattle.matrix.proofs.SetTurns.{turns-ahead}
use mathlib.Core.Path.{sym, ap, ◌∙◌}
use native.Mathlib.Omega.{arith}
use Rattle.matrix.proofs.matrix.sequential_rows.Goals as goal

pub loop-i-init : goal.loop-i-init
loop-i-init c = sequencing-start

pub loop-i-preserved-then-newline : goal.loop-i-preserved-then-newline
loop-i-preserved-then-newline c =
    sequencing-newline c.requires.0 c.loop-i.invariant c.loop-i-test.true (sym c.newline.ensures ∙ c.if-newline.true)

pub loop-i-smaller-in-On : goal.loop-i-smaller-in-On
loop-i-smaller-in-On c = omega (arith, turns-ahead _ _ _ _ _ _ _ c.sequential_turn-turn.ensures, c.loop-i-test.true)

pub loop-i-smaller : goal.loop-i-smaller
loop-i-smaller c = omega (arith, turns-ahead _ _ _ _ _ _ _ c.sequential_turn-turn.ensures, c.loop-i-test.true)

pub returns : goal.returns
returns c =
    sequencing-end c.requires.0 c.loop-i.invariant c.sequential_end.ensures c.loop-i-test.false

pub loop-i-preserved-in-On : goal.loop-i-preserved-in-On
unfolding outcome
loop-i-preserved-in-On c =
    judged-on
    (turns-judged c.requires.0 (λ b. (c.type_inv.text b).fits) c.loop-i.invariant c.loop-i-test.true (sym c.newline.ensures ∙ c.if-newline.false)
    c.sequential_turn-turn.ensures)
    _ (ap outcome c.in_ok-next.was ∙ ap (λ t. done t) c.in-On.is)

pub put_row-requires : goal.put_row-requires
unfolding outcome
put_row-requires c =
    sequencing-put
    (turns-judged c.requires.0 (λ b. (c.type_inv.text b).fits) c.loop-i.invariant c.loop-i-test.true (sym c.newline.ensures ∙ c.if-newline.false)
    c.sequential_turn-turn.ensures).judging
    c.requires.1 _ (ap outcome c.in_ok-next.was ∙ ap (λ t. done t) c.in-Full.is)

pub loop-i-preserved : goal.loop-i-preserved
unfolding outcome
loop-i-preserved c =
    judged-full
    (turns-judged c.requires.0 (λ b. (c.type_inv.text b).fits) c.loop-i.invariant c.loop-i-test.true (sym c.newline.ensures ∙ c.if-newline.false)
    c.sequential_turn-turn.ensures)
    _ (ap outcome c.in_ok-next.was ∙ ap (λ t. done t) c.in-Full.is) c.put_row.ensures

pub returns-in_err-next : goal.returns-in_err-next
unfolding outcome
returns-in_err-next c =
    rw (given-on _ c.from_residual.ensures.1)
    (sequencing-refused
    (turns-judged c.requires.0 (λ b. (c.type_inv.text b).fits) c.loop-i.invariant c.loop-i-test.true (sym c.newline.ensures ∙ c.if-newline.false)
    c.sequential_turn-turn.ensures).judging
    _ _ (ap outcome c.in_err-next.was))
