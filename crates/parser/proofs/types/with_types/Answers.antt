-- The function `with_types` meets its contract. Assumes nothing.
use Rattle.parser.proofs.EndLaws.{none-typed, read-typed}
use Rattle.parser.proofs.types.with_types.Goals as goal

pub returns-in_err-h-clause-typed : goal.returns-in_err-h-clause-typed
returns-in_err-h-clause-typed c = rw c.from_residual.ensures (λ m text work h. none-typed m text work _ _ _ c.in_err-h.was)

pub returns-clause-typed : goal.returns-clause-typed
returns-clause-typed c = λ m text work h. read-typed m text work _ _ _ h _ c.in_ok-h.was
