use Rattle.lexer.proofs.NextBytes.{yielded}
use Rattle.lexer.proofs.TextWalks.{blanking-turn, blanking-over, blanking-end}
use mathlib.Core.Path.{refl}
use native.Mathlib.Omega.{arith}
use Rattle.lexer.proofs.label.blank_text.Goals as goal

pub loop-b-init : goal.loop-b-init
loop-b-init c = record { rest = refl }

pub returns-then-not-blank_byte : goal.returns-then-not-blank_byte
returns-then-not-blank_byte c =
    let read = (yielded _ _ _ c.next_byte.ensures).byte _ _ c.in-Some.is in
    blanking-over _ _ _ c.loop-b.invariant _ _ read _ c.blank_byte.ensures c.if-not-blank_byte.true

pub loop-b-smaller : goal.loop-b-smaller
loop-b-smaller c = let y = (yielded _ _ _ c.next_byte.ensures).byte _ _ c.in-Some.is in omega arith

pub loop-b-preserved : goal.loop-b-preserved
loop-b-preserved c =
    let read = (yielded _ _ _ c.next_byte.ensures).byte _ _ c.in-Some.is in
    blanking-turn _ _ _ c.loop-b.invariant _ _ read _ c.blank_byte.ensures c.if-not-blank_byte.false

pub returns : goal.returns
returns c = blanking-end _ _ _ c.loop-b.invariant ((yielded _ _ _ c.next_byte.ensures).end c.in_default.is)
