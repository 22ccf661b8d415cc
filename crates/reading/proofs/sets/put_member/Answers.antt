-- The function `put_member` meets its contract, behind others or not. Assumes nothing.
use Rattle.emit.proofs.PutLaws.{puts-as, puts_then}
use Rattle.lexer.specs.Base.{pick}
use Rattle.reading.specs.CodedCells.{dotted_on}
use Rattle.reading.proofs.sets.put_member.Goals as goal

pub returns-then-begun : goal.returns-then-begun
unfolding dotted_on pick
returns-then-begun c =
    puts-as (puts_then c.put-at.ensures c.put_decimal.ensures) (λ behind. rw c.if-begun.true)

pub returns : goal.returns
unfolding dotted_on pick
returns c =
    puts-as c.put_decimal-2.ensures (λ behind. rw c.if-begun.false)
