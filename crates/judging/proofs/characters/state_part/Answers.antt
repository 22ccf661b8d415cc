-- The function `state_part` meets its contract: the count is too large, so many state labels stand behind it, or fewer; or no count stands there. Assumes nothing.
use Rattle.lexer.specs.Base.{bytes}
use mathlib.Core.Path.{refl}
use Rattle.judging.proofs.CharactersTold.{states-counted, states-fewer, states-many, states-uncounted}
use Rattle.judging.proofs.characters.state_part.Goals as goal

pub returns-in_err-n : goal.returns-in_err-n
unfolding bytes
returns-in_err-n c = rw c.from_residual.ensures (λ small. states-uncounted _ _ _ small _ c.in_err-n.ensures refl)

pub returns-then-most-n : goal.returns-then-most-n
unfolding bytes
returns-then-most-n c = λ small. states-many _ _ _ small _ c.in_ok-n.ensures _ _ refl c.if-most-n.true

pub returns-in_err-k : goal.returns-in_err-k
unfolding bytes
returns-in_err-k c = rw c.from_residual-in_err-k.ensures (λ small. states-fewer _ _ _ small _ c.in_ok-n.ensures _ _ refl _ c.in_err-k.ensures refl)

pub returns : goal.returns
unfolding bytes
returns c = λ small. states-counted _ _ _ small _ c.in_ok-n.ensures _ _ refl c.if-most-n.false _ c.in_ok-k.ensures _ refl
