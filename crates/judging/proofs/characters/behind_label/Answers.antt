-- The function `behind_label` meets its contract: type and state labels stand there; or the state labels do not, or the type. Assumes nothing.
use mathlib.Core.Path.{refl}
use Rattle.judging.proofs.CharactersTold.{tail-uncounted, tail-unordered, tail-whole}
use Rattle.judging.proofs.characters.behind_label.Goals as goal

pub returns-in_err-j : goal.returns-in_err-j
returns-in_err-j c = rw c.from_residual.ensures (λ small. tail-unordered _ _ _ _ _ c.in_err-j.ensures refl)

pub returns-in_err-k : goal.returns-in_err-k
returns-in_err-k c = rw c.from_residual-in_err-k.ensures (λ small. tail-uncounted _ _ _ _ _ c.in_ok-j.ensures _ _ refl _ (c.in_err-k.ensures small) refl)

pub returns : goal.returns
returns c = λ small. tail-whole _ _ _ _ _ c.in_ok-j.ensures _ _ refl _ (c.in_ok-k.ensures small) _ _ refl
