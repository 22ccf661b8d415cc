-- The function `has_cell` meets its contract, by the ranges of codes. Assumes nothing.
use Rattle.reading.proofs.DecodedLaws.{cell-none, cell-some}
use native.Mathlib.Omega.{arith}
use Rattle.reading.proofs.cells.has_cell.Goals as goal

pub returns-in-0-to-111 : goal.returns-in-0-to-111
returns-in-0-to-111 c = cell-some c.args.code (λ h m. omega arith)

pub returns-in-0-to-111-2 : goal.returns-in-0-to-111-2
returns-in-0-to-111-2 c = cell-some c.args.code (λ h m. omega arith)

pub returns-in_default : goal.returns-in_default
returns-in_default c = cell-none c.args.code (omega arith) (λ e. omega arith) (λ e. omega arith)

pub returns-in_default-2 : goal.returns-in_default-2
returns-in_default-2 c = cell-none c.args.code (omega arith) (λ e. omega arith) (λ e. omega arith)
