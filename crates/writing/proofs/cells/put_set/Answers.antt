-- The function `put_set` meets its contract. Assumes nothing.
use Rattle.writing.proofs.CellPut.{set-within}
use native.Mathlib.Omega.{arith}
use Rattle.writing.proofs.cells.put_set.Goals as goal

pub returns : goal.returns
returns c =
    (omega (arith, c.put_members-set.ensures.0), set-within _ _ _ _ _ c.put-m.ensures c.put_members-set.ensures.1 c.put-end.ensures)
