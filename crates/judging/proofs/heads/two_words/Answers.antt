-- The function `two_words` meets its contract: the first stands there, or the second, or neither. Assumes nothing.
use mathlib.Core.Path.{refl}
use Rattle.judging.proofs.JudgeLaws.{no_some}
use Rattle.judging.proofs.OpeningTold.{word_first, word-neither, word-second}
use Rattle.judging.proofs.heads.two_words.Goals as goal

pub returns-in-Some : goal.returns-in-Some
returns-in-Some c = λ apart. word_first _ _ _ _ apart _ c.key_at.ensures _ c.in-Some.is

pub returns-in_err-k : goal.returns-in_err-k
returns-in_err-k c = rw c.from_residual.ensures (λ apart. word-neither _ _ _ _ apart _ c.key_at.ensures (no_some _ c.in_default.not-Some) _ c.in_err-k.ensures refl)

pub returns : goal.returns
returns c = λ apart. word-second _ _ _ _ apart _ c.key_at.ensures (no_some _ c.in_default.not-Some) _ c.in_ok-k.ensures _ refl
