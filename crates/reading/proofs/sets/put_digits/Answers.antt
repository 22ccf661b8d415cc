use Rattle.reading.proofs.WholePuts.{digits-end, digits-turn}
use native.Mathlib.Omega.{arith}
use Rattle.reading.proofs.sets.put_digits.Goals as goal

pub loop-i-preserved : goal.loop-i-preserved
loop-i-preserved c =
    digits-turn _ _ _ _ _ _ _ _ c.loop-i.invariant c.loop-i-test.true (omega (arith, c.requires.within, c.loop-i-test.true)) c.entry_of-code.ensures c.put-behind.ensures c.put-at.ensures

pub returns : goal.returns
returns c = digits-end _ _ _ _ _ _ _ c.loop-i.invariant c.loop-i-test.false
