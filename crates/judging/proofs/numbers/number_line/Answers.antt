-- The function `number_line` meets its contract: the value is too large, its digits or the LF behind them do not stand there, or all do. Assumes nothing.
use mathlib.Core.Path.{refl}
use Rattle.judging.proofs.NumberLaws.{number-large, number-no-digits, number-no-end, number-whole}
use Rattle.judging.proofs.numbers.number_line.Goals as goal

pub returns-then-value-gt1048576 : goal.returns-then-value-gt1048576
returns-then-value-gt1048576 c = number-large _ _ _ c.leading-value.ensures c.if-value-gt1048576.true

pub returns-in_err-j : goal.returns-in_err-j
returns-in_err-j c = rw c.from_residual.ensures (number-no-digits _ _ _ c.leading-value.ensures c.if-value-gt1048576.false _ c.in_err-j.ensures refl)

pub returns-in_err-k : goal.returns-in_err-k
returns-in_err-k c = rw c.from_residual-in_err-k.ensures (number-no-end _ _ _ c.leading-value.ensures c.if-value-gt1048576.false _ c.in_ok-j.ensures _ refl _ c.in_err-k.ensures refl)

pub returns : goal.returns
returns c = number-whole _ _ _ c.leading-value.ensures c.if-value-gt1048576.false _ c.in_ok-j.ensures _ refl _ c.in_ok-k.ensures _ refl
