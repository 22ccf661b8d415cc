-- The function `head_lines` meets its contract: a type stands there, and then what is behind it is judged; or none does. Assumes nothing.
use Rattle.lexer.specs.Base.{bytes}
use mathlib.Core.Path.{refl}
use Rattle.judging.proofs.OpeningTold.{opening-none, opening-whole}
use Rattle.judging.proofs.heads.head_lines.Goals as goal

pub returns-in_err-i : goal.returns-in_err-i
unfolding bytes
returns-in_err-i c = rw c.from_residual.ensures (opening-none _ _ _ c.in_err-i.ensures refl)

pub returns : goal.returns
unfolding bytes
returns c = opening-whole _ _ _ c.in_ok-i.ensures _ _ refl _ c.data_type_of.ensures _ c.behind_type.ensures
