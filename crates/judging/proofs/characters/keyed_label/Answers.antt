-- The function `keyed_label` meets its contract: the key stands there, and then the label is judged, which is empty where an LF begins it; or the key does not. Assumes nothing.
use Rattle.lexer.specs.Base.{bytes}
use mathlib.Core.Path.{refl}
use Rattle.judging.proofs.LinesTold.{labelled-line, label-otherwise, unlabelled}
use Rattle.judging.proofs.characters.keyed_label.Goals as goal

pub returns-in_err-j : goal.returns-in_err-j
unfolding bytes
returns-in_err-j c = rw c.from_residual.ensures (unlabelled _ _ _ c.in_err-j.ensures refl)

pub returns-in_err-k : goal.returns-in_err-k
unfolding bytes
returns-in_err-k c = rw c.from_residual-in_err-k.ensures (label-otherwise _ _ _ c.in_ok-j.ensures _ refl _ c.in_err-k.ensures refl)

pub returns : goal.returns
unfolding bytes
returns c = rw c.byte_or_zero.ensures (labelled-line _ _ _ c.in_ok-j.ensures _ refl _ c.in_ok-k.ensures _ refl)
