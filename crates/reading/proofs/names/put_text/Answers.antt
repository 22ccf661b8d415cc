use Rattle.lexer.proofs.NextBytes.{yielded}
use Rattle.reading.proofs.NamePuts.{text-end, text-next}
use Rattle.reading.proofs.PutWalks.{putting-end, putting-turn}
use native.Mathlib.Omega.{arith}
use Rattle.reading.proofs.names.put_text.Goals as goal

pub loop-b-smaller : goal.loop-b-smaller
loop-b-smaller c =
    let y = (yielded _ _ _ c.next_byte.ensures).byte _ _ c.in-Some.is in
    omega arith

pub loop-b-preserved : goal.loop-b-preserved
loop-b-preserved c =
    let y = (yielded _ _ _ c.next_byte.ensures).byte _ _ c.in-Some.is in
    putting-turn c.loop-b.invariant c.put_escaped-m.ensures (λ behind. text-next _ _ _ behind y.here)

pub returns : goal.returns
returns c = putting-end c.loop-b.invariant (λ behind. text-end _ behind ((yielded _ _ _ c.next_byte.ensures).end c.in_default.is))
