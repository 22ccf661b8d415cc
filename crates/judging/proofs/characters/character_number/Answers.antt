-- The function `character_number` meets its contract: key, digits and LF stand there; or the digits do not, or the key. Assumes nothing.
use Rattle.lexer.specs.Base.{bytes}
use mathlib.Core.Path.{refl}
use Rattle.judging.proofs.LinesTold.{numbered, numbered-otherwise, unnumbered}
use Rattle.judging.proofs.characters.character_number.Goals as goal

pub returns-in_err-j : goal.returns-in_err-j
unfolding bytes
returns-in_err-j c = rw c.from_residual.ensures (unnumbered _ _ _ _ c.in_err-j.ensures refl)

pub returns-in_err-l : goal.returns-in_err-l
unfolding bytes
returns-in_err-l c = rw c.from_residual-in_err-l.ensures (numbered-otherwise _ _ _ _ c.in_ok-j.ensures _ refl _ c.in_err-l.ensures refl)

pub returns : goal.returns
unfolding bytes
returns c = numbered _ _ _ _ c.in_ok-j.ensures _ refl _ c.in_ok-l.ensures _ refl _ c.key_at-2.ensures
