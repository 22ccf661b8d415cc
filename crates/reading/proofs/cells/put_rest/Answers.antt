use Prim.Native.Nat.{◌+◌}
use Rattle.reading.proofs.RunPieces.{part-one, run-over, run-part}
use mathlib.Core.Path.{◌∙◌}
use native.Mathlib.Omega.{arith}
use Rattle.reading.proofs.cells.put_rest.Goals as goal

pub loop-i-preserved : goal.loop-i-preserved
loop-i-preserved c =
    let a = c.args in
    let r = c.put_short.ensures in
    let one = part-one a.codes.now a.text.now c.loop-i.i (omega arith) (rw c.entry_of.ensures at c.put_cell-last.ensures) in
    let first = run-part a.codes.now a.text.now a.from a.end c.loop-i.i c.loop-i.invariant.3 (c.loop-i.i + 1) (omega arith) (omega arith) one in
    (omega (arith, r.ahead), r.within, r.put.put.kept ∙ c.put_cell-last.ensures.put.kept ∙ c.loop-i.invariant.2, run-part a.codes.now a.text.now a.from a.end (c.loop-i.i + 1) first c.put_short.result.1 r.ahead r.within r.put)

pub returns : goal.returns
returns c =
    let a = c.args in
    run-over a.codes.now a.text.now a.from a.end c.loop-i.i c.loop-i.invariant.3 c.loop-i-test.false
