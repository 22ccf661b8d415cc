-- The function `cell_byte` meets its contract, arm by arm. Assumes nothing.
use Rattle.reading.proofs.ShortLaws.{byte-gap, byte-missing, byte-other, byte-state}
use native.Mathlib.Omega.{arith}
use Rattle.reading.proofs.cells.cell_byte.Goals as goal

pub returns-in-0-to-9 : goal.returns-in-0-to-9
returns-in-0-to-9 c = byte-state c.args.code (omega arith)

pub returns-in-126 : goal.returns-in-126
returns-in-126 c = byte-missing c.args.code c.in-126.is

pub returns-in-127 : goal.returns-in-127
returns-in-127 c = byte-gap c.args.code c.in-127.is

pub returns-in_default : goal.returns-in_default
returns-in_default c = byte-other c.args.code (omega arith) (λ e. omega arith) (λ e. omega arith)
