-- The function `character` meets its contract: its number and its lines stand there; or no number does. Assumes nothing.
use mathlib.Core.Path.{refl}
use Rattle.judging.proofs.CharactersTold.{character-unnumbered, character-whole}
use Rattle.judging.proofs.characters.character.Goals as goal

pub returns-in_err-j : goal.returns-in_err-j
returns-in_err-j c = rw c.from_residual.ensures (λ small. character-unnumbered _ _ _ _ _ c.in_err-j.ensures refl)

pub returns : goal.returns
returns c = λ small. character-whole _ _ _ _ _ c.in_ok-j.ensures _ refl _ (c.behind_number.ensures small)
