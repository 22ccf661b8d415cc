-- The function `judge` meets its contract: the first four lines stand there, and then what is behind them is judged; or they do not. Assumes nothing.
use mathlib.Core.Path.{refl}
use Rattle.judging.proofs.RecordParts.{judged-no-opening}
use Rattle.judging.proofs.whole.judge.Goals as goal

pub returns-in_err-i : goal.returns-in_err-i
returns-in_err-i c = rw c.from_residual.ensures (judged-no-opening _ _ c.in_err-i.ensures refl)
