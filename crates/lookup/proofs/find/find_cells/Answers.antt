use Rattle.lookup.proofs.FindLaws.{seeking-end, seeking-found, seeking-turn}
use native.Mathlib.Omega.{arith}
use mathlib.Core.Path.{◌≡◌}
use Prim.Native.Nat.{◌+◌, ◌-◌}
use Rattle.lookup.proofs.find.find_cells.Goals as goal

pub returns-then-name_alike : goal.returns-then-name_alike
returns-then-name_alike c =
    seeking-found _ _ _ _ _ _ _ c.loop.invariant (omega arith) c.name_begin.ensures c.name_alike.ensures c.if-name_alike.true
    c.cells_begin-start.ensures c.cells_end-end.ensures

pub loop-preserved : goal.loop-preserved
loop-preserved c =
    let less : c.args.taxa.0 - c.loop.counter - 1 ≡ c.args.taxa.0 - (c.loop.counter + 1) = omega arith in
    rw less at (seeking-turn _ _ _ _ _ _ _ c.loop.invariant (omega arith) c.name_begin.ensures c.name_alike.ensures c.if-name_alike.false c.next_row-here.ensures)

pub returns : goal.returns
returns c = seeking-end _ _ _ _ _ _ _ c.loop.invariant (omega arith)
