-- The function `type_at` meets its contract, number by number. Assumes nothing.
use Rattle.reading.proofs.CharacterPuts.{type-none, type-one, type-two, type-untyped}
use native.Mathlib.Omega.{arith}
use Rattle.reading.proofs.characters.type_at.Goals as goal

pub returns-then-not-typed : goal.returns-then-not-typed
returns-then-not-typed c = type-untyped _ _ _ _ c.if-not-typed.true

pub returns-in-0 : goal.returns-in-0
returns-in-0 c = type-none _ _ _ _ c.if-not-typed.false _ c.start_of.ensures c.in-0.is

pub returns-in-1 : goal.returns-in-1
returns-in-1 c = type-one _ _ _ _ c.if-not-typed.false _ c.start_of.ensures c.in-1.is

pub returns-in_default : goal.returns-in_default
returns-in_default c = type-two _ _ _ _ c.if-not-typed.false _ c.start_of.ensures (λ e. omega arith) (λ e. omega arith)
