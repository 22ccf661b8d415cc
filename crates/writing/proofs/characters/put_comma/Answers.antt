-- The function `put_comma` meets its contract. Assumes nothing.
use Rattle.emit.proofs.PutLaws.{puts-as, puts_none}
use Rattle.writing.proofs.EntryPuts.{comma-none, comma-some}
use Rattle.writing.proofs.characters.put_comma.Goals as goal

pub returns-then-first : goal.returns-then-first
returns-then-first c = puts-as puts_none (λ behind. comma-none _ behind c.if-first.true)

pub returns : goal.returns
returns c = puts-as c.put.ensures (λ behind. comma-some _ behind c.if-first.false)
