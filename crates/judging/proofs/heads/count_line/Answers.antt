-- The function `count_line` meets its contract: the number is 0, or it is not, or there is none. Assumes nothing.
use mathlib.Core.Path.{refl}
use Rattle.judging.proofs.OpeningTold.{count_none, count-some, count-zero}
use Rattle.judging.proofs.heads.count_line.Goals as goal

pub returns-in_err-n : goal.returns-in_err-n
returns-in_err-n c = rw c.from_residual.ensures (count_none _ _ c.args.word.now _ c.in_err-n.ensures refl)

pub returns-then-n-eq0 : goal.returns-then-n-eq0
returns-then-n-eq0 c = count-zero _ _ c.args.word.now _ c.in_ok-n.ensures _ _ refl c.if-n-eq0.true

pub returns : goal.returns
returns c = count-some _ _ c.args.word.now _ c.in_ok-n.ensures _ _ refl c.if-n-eq0.false
