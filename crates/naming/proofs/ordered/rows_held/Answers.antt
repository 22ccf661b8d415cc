-- The function `rows_held` meets its contract. Assumes nothing.
use Rattle.naming.proofs.OrderedRows.{held-twice, held-known, held-behind}
use mathlib.Core.Path.{refl}
use Rattle.naming.proofs.ordered.rows_held.Goals as goal

pub returns-in_err-next : goal.returns-in_err-next
returns-in_err-next c = rw c.from_residual.ensures (held-twice _ _ _ _ _ _ c.in_err-next.ensures refl)

pub returns-then-none_found : goal.returns-then-none_found
returns-then-none_found c =
    held-behind _ _ _ _ _ _ c.in_ok-next.ensures _ refl c.none_found.ensures c.if-none_found.true

pub returns : goal.returns
returns c =
    held-known _ _ _ _ _ _ c.in_ok-next.ensures _ refl c.none_found.ensures c.if-none_found.false
