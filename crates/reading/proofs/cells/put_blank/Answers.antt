-- The function `put_blank` meets its contract. Assumes nothing.
use Rattle.emit.proofs.PutLaws.{puts-as, puts_none}
use Rattle.lexer.specs.Base.{pick}
use Rattle.reading.proofs.cells.put_blank.Goals as goal

pub returns-then-started : goal.returns-then-started
unfolding pick
returns-then-started c = puts-as c.put.ensures (λ behind. rw c.if-started.true)

pub returns : goal.returns
unfolding pick
returns c = puts-as puts_none (λ behind. rw c.if-started.false)
