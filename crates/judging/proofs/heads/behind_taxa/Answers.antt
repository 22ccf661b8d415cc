-- The function `behind_taxa` meets its contract: count and symbols stand there; or the symbols do not, or the count. Assumes nothing.
use Rattle.lexer.specs.Base.{bytes}
use mathlib.Core.Path.{refl}
use Rattle.judging.proofs.OpeningTold.{behind-taxa-no-count, behind-taxa-no-symbols, behind-taxa-whole}
use Rattle.judging.proofs.heads.behind_taxa.Goals as goal

pub returns-in_err-n : goal.returns-in_err-n
unfolding bytes
returns-in_err-n c = rw c.from_residual.ensures (behind-taxa-no-count _ _ _ _ _ c.in_err-n.ensures refl)

pub returns-in_err-states : goal.returns-in_err-states
unfolding bytes
returns-in_err-states c = rw c.from_residual-in_err-states.ensures (behind-taxa-no-symbols _ _ _ _ _ c.in_ok-n.ensures _ _ refl _ c.in_err-states.ensures refl)

pub returns : goal.returns
unfolding bytes
returns c = behind-taxa-whole _ _ _ _ _ c.in_ok-n.ensures _ _ refl _ c.in_ok-states.ensures _ _ refl _ refl refl refl refl
