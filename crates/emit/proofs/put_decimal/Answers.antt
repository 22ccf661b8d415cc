-- The function `put_decimal` meets its contract: one digit; no digit has room, any number has, or some digits may have. Assumes nothing.
use Rattle.emit.proofs.DigitsStored.{one-digit}
use Rattle.emit.proofs.PutLaws.{puts-as, puts-past}
use Rattle.record.specs.Decimal.{decimal}
use Rattle.emit.proofs.put_decimal.Goals as goal

pub returns-then-value-lt10 : goal.returns-then-value-lt10
returns-then-value-lt10 c =
    let p = rw c.last_digit.ensures at c.put.ensures in
    puts-as p (λ behind. one-digit _ behind c.if-value-lt10.true)

pub returns-then-buffer-n : goal.returns-then-buffer-n
returns-then-buffer-n c =
    puts-past _ _ (decimal c.args.value) _ c.if-buffer-n.true (rw c.digits_of.ensures at c.further.ensures)
