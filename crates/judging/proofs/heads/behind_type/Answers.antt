-- The function `behind_type` meets its contract: a count stands there, and then what is behind it is judged; or none does. Assumes nothing.
use Rattle.lexer.specs.Base.{bytes}
use mathlib.Core.Path.{refl}
use Rattle.judging.proofs.OpeningTold.{behind-type-no-count, behind-type-whole}
use Rattle.judging.proofs.heads.behind_type.Goals as goal

pub returns-in_err-n : goal.returns-in_err-n
unfolding bytes
returns-in_err-n c = rw c.from_residual.ensures (behind-type-no-count _ _ _ _ c.in_err-n.ensures refl)

pub returns : goal.returns
unfolding bytes
returns c = behind-type-whole _ _ _ _ c.in_ok-n.ensures _ _ refl _ refl _ c.behind_taxa.ensures
