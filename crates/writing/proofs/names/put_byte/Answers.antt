-- The function `put_byte` meets its contract, byte by byte: a quote, a blank, and any other. Assumes nothing.
use Rattle.emit.proofs.PutLaws.{puts-as}
use Rattle.writing.proofs.QuotedBytes.{quote-doubled, quote-blank, quote-plain}
use native.Mathlib.Omega.{arith}
use Rattle.writing.proofs.names.put_byte.Goals as goal

pub returns-in-39 : goal.returns-in-39
returns-in-39 c = puts-as c.put_all.ensures (λ behind. quote-doubled _ behind c.in-39.is)

pub returns-in-32 : goal.returns-in-32
returns-in-32 c = puts-as c.put.ensures (λ behind. quote-blank _ behind c.in-32.is)

pub returns-in_default : goal.returns-in_default
returns-in_default c = puts-as c.put-in_default.ensures (λ behind. quote-plain _ behind (λ e. omega arith) (λ e. omega arith))
