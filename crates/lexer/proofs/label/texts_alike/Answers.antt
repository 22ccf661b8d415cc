use Rattle.lexer.proofs.NextBytes.{yielded}
use Rattle.lexer.proofs.TextWalks.{comparing-turn, comparing-over, comparing-short, comparing-end}
use mathlib.Core.Path.{refl, sym, ◌∙◌}
use native.Mathlib.Omega.{arith}
use Rattle.lexer.proofs.label.texts_alike.Goals as goal

pub loop-a-init : goal.loop-a-init
loop-a-init c = record { rest = refl }

pub returns-then-folded : goal.returns-then-folded
returns-then-folded c =
    let read = (yielded _ _ _ c.next_byte.ensures).byte _ _ c.in-Some.is in
    let read2 = (yielded _ _ _ c.next_byte-in-Some.ensures).byte _ _ c.in-Some-next_byte.is in
    comparing-over _ _ _ _ _ c.loop-a.invariant _ _ read _ _ read2 (λ e. c.if-folded.true (c.folded.ensures ∙ e ∙ sym c.folded-in-Some.ensures))

pub loop-a-smaller : goal.loop-a-smaller
loop-a-smaller c =
    let read = (yielded _ _ _ c.next_byte.ensures).byte _ _ c.in-Some.is in
    omega arith

pub loop-a-preserved : goal.loop-a-preserved
loop-a-preserved c =
    let read = (yielded _ _ _ c.next_byte.ensures).byte _ _ c.in-Some.is in
    let read2 = (yielded _ _ _ c.next_byte-in-Some.ensures).byte _ _ c.in-Some-next_byte.is in
    comparing-turn _ _ _ _ _ c.loop-a.invariant _ _ read _ _ read2 (sym c.folded.ensures ∙ c.if-folded.false ∙ c.folded-in-Some.ensures)

pub returns-in_default-next_byte : goal.returns-in_default-next_byte
returns-in_default-next_byte c =
    let read = (yielded _ _ _ c.next_byte.ensures).byte _ _ c.in-Some.is in
    comparing-short _ _ _ _ _ c.loop-a.invariant _ _ read ((yielded _ _ _ c.next_byte-in-Some.ensures).end c.in_default-next_byte.is)

pub returns : goal.returns
returns c =
    c.ended.ensures ∙ comparing-end _ _ _ _ _ c.loop-a.invariant ((yielded _ _ _ c.next_byte.ensures).end c.in_default.is)
