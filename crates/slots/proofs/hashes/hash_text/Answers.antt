use Rattle.lexer.proofs.NextBytes.{front-left, yielded}
use Rattle.lexer.specs.Words.{spaced}
use Rattle.slots.proofs.HashLaws.{hashing-turn, hashing-end}
use Rattle.slots.specs.Hashes.{hash}
use mathlib.Core.Path.{refl, ap, ◌∙◌}
use native.Mathlib.Omega.{arith}
use Rattle.slots.proofs.hashes.hash_text.Goals as goal

pub loop-b-init : goal.loop-b-init
unfolding hash
loop-b-init c = record { small = omega arith; rest = refl }

pub mixed-h-requires : goal.mixed-h-requires
mixed-h-requires c = c.loop-b.invariant.small

pub loop-b-smaller : goal.loop-b-smaller
loop-b-smaller c =
    let read = (yielded _ _ _ c.next_byte.ensures).byte _ _ c.in-Some.is in
    omega arith

pub loop-b-preserved : goal.loop-b-preserved
loop-b-preserved c =
    let read = (yielded _ _ _ c.next_byte.ensures).byte _ _ c.in-Some.is in
    hashing-turn _ _ _ _ c.loop-b.invariant _ _ read _ c.mixed-h.ensures

pub returns : goal.returns
returns c =
    hashing-end _ _ _ _ c.loop-b.invariant ((yielded _ _ _ c.next_byte.ensures).end c.in_default.is) ∙ ap (λ t. hash (spaced t)) (front-left _ _ _ c.text_start-c.ensures)
