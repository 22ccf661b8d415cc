use Rattle.reading.proofs.NamePuts.{bytes-end, bytes_next}
use Rattle.reading.proofs.PutWalks.{putting-end, putting-turn}
use native.Mathlib.Omega.{arith}
use Rattle.reading.proofs.names.put_bytes.Goals as goal

pub loop-i-preserved : goal.loop-i-preserved
loop-i-preserved c =
    putting-turn c.loop-i.invariant c.put_escaped-m.ensures (λ behind. bytes_next _ _ _ behind c.loop-i-test.true (omega arith))

pub returns : goal.returns
returns c = putting-end c.loop-i.invariant (λ behind. bytes-end _ _ _ behind c.loop-i-test.false)
