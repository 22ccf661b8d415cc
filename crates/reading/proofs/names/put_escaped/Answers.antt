-- The function `put_escaped` meets its contract, byte by byte: `_`, LF, a backslash, and any other. Assumes nothing.
use Rattle.emit.proofs.PutLaws.{puts-as}
use Rattle.reading.proofs.NamePuts.{byte-backslash, byte-blank, byte-newline, byte-plain}
use native.Mathlib.Omega.{arith}
use Rattle.reading.proofs.names.put_escaped.Goals as goal

pub returns-in-95 : goal.returns-in-95
returns-in-95 c = puts-as c.put.ensures (λ behind. byte-blank _ behind c.in-95.is)

pub returns-in-10 : goal.returns-in-10
returns-in-10 c = puts-as c.put_all.ensures (λ behind. byte-newline _ behind c.in-10.is)

pub returns-in-92 : goal.returns-in-92
returns-in-92 c = puts-as c.put_all-in-92.ensures (λ behind. byte-backslash _ behind c.in-92.is)

pub returns-in_default : goal.returns-in_default
returns-in_default c =
    puts-as c.put-in_default.ensures (λ behind. byte-plain _ behind (λ e. omega arith) (λ e. omega arith) (λ e. omega arith))
