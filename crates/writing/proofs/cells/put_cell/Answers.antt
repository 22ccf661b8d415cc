-- The function `put_cell` meets its contract. Assumes nothing.
use Rattle.writing.proofs.CellPut.{cell-polymorphic, cell-single, cell-uncertain}
use Rattle.writing.proofs.SignsRead.{sign-ahead}
use native.Mathlib.Omega.{arith}
use Rattle.writing.proofs.cells.put_cell.Goals as goal

pub returns-in-117 : goal.returns-in-117
returns-in-117 c = (c.put_set.ensures.0, cell-uncertain _ _ _ _ _ _ _ c.in-117.is c.put_set.ensures.1)

pub returns-in-112 : goal.returns-in-112
returns-in-112 c = (c.put_set-in-112.ensures.0, cell-polymorphic _ _ _ _ _ _ _ c.in-112.is c.put_set-in-112.ensures.1)

pub returns-in_default : goal.returns-in_default
returns-in_default c = (
  omega (arith, sign-ahead _ _ _ _ c.sign_at-s.ensures),
  cell-single _ _ _ _ _ _ _ _ (λ e. omega arith) (λ e. omega arith) c.sign_at-s.ensures c.put-end.ensures,
)
