use Rattle.slots.proofs.FillingLaws.{taken_more}
use mathlib.Core.Path.{sym, ◌∙◌}
use native.Mathlib.Omega.{arith}
use Rattle.slots.proofs.filling.free_slot.Goals as goal

pub loop-p-init : goal.loop-p-init
loop-p-init c = (omega arith, λ l. absurd (omega arith), λ q l m. absurd (omega arith))

pub returns-then-start_of-eq0 : goal.returns-then-start_of-eq0
returns-then-start_of-eq0 c =
    let i = c.loop-p.invariant in
    (record { ahead = i.0; within = i.1; taken = i.2; stop = λ _. sym c.start_of.ensures ∙ c.if-start_of-eq0.true }, c.loop-p-test.true)

pub loop-p-preserved : goal.loop-p-preserved
loop-p-preserved c =
    let i = c.loop-p.invariant in
    (omega (arith, i.0), λ m. omega arith, taken_more c.args.work.now _ _ i.2 _ c.start_of.ensures c.if-start_of-eq0.false)

pub returns : goal.returns
returns c = λ q l m. c.loop-p.invariant.2 q l (omega arith)
