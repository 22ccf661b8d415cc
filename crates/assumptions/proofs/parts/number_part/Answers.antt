-- The function `number_part` meets its contract. Assumes nothing.
use Rattle.assumptions.proofs.DigitWords.{number-told}
use Rattle.lexer.specs.Base.{pick}
use mathlib.Core.Path.{sym}
use Rattle.assumptions.proofs.parts.number_part.Goals as goal

pub returns : goal.returns
unfolding pick
returns c = λ w e s. rw (c.character.ensures, ← e) (sym (number-told _ w _ s))
