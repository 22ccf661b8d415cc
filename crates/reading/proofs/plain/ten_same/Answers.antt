use Rattle.reading.proofs.TenPlain.{same_end, same_turn}
use mathlib.Core.Path.{◌∙◌}
use native.Mathlib.Omega.{arith}
use Rattle.reading.proofs.plain.ten_same.Goals as goal

pub loop-i-preserved : goal.loop-i-preserved
loop-i-preserved c =
    let a = c.args in
    (omega arith, same_turn a.work.now a.number a.at c.loop-i.all c.loop-i.i c.loop-i-test.true ∙ c.loop-i.invariant.1)

pub returns : goal.returns
returns c = same_end _ _ _ c.loop-i.all c.loop-i.i c.loop-i-test.false ∙ c.loop-i.invariant.1
