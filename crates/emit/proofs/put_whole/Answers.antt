-- The function `put_whole` meets its contract. Assumes nothing.
use Rattle.emit.proofs.PutLaws.{puts-all, puts_none, puts-stored}
use lib.ListN.{length}
use mathlib.Core.Path.{◌≡◌}
use native.Mathlib.Nat.{add-zero}
use native.Mathlib.Omega.{arith}
use Rattle.emit.proofs.put_whole.Goals as goal

pub loop-i-init : goal.loop-i-init
loop-i-init c = (omega arith, rw add-zero puts_none)

pub loop-i-preserved : goal.loop-i-preserved
loop-i-preserved c = (omega arith, puts-stored _ _ c.loop-i.invariant.1 c.loop-i-test.true)

pub returns-clause-puts : goal.returns-clause-puts
returns-clause-puts c =
    let end : c.loop-i.i ≡ length c.args.bytes.now = omega arith in
    rw end at (puts-all _ _ c.loop-i.invariant.1 c.loop-i-test.false)
