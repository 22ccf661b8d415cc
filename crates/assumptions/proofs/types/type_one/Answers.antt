-- The function `type_one` meets its contract. Assumes nothing.
use Prim.Native.Nat.{◌<◌}
use Rattle.lexer.specs.Base.{pick}
use borrow.Author.Tests.{lt-ltb}
use native.Mathlib.Omega.{arith}
use Rattle.assumptions.proofs.types.type_one.Goals as goal

pub returns-then-k-eq0-clause-stored : goal.returns-then-k-eq0-clause-stored
unfolding pick
returns-then-k-eq0-clause-stored c = rw c.if-k-eq0.true

pub returns-then-work-i-eq0-clause-stored : goal.returns-then-work-i-eq0-clause-stored
unfolding pick
returns-then-work-i-eq0-clause-stored c =
    let some : 0 < c.args.k.0 = omega (arith, c.if-k-eq0.false) in
    rw (lt-ltb 0 c.args.k.0 some)

pub returns-clause-stored : goal.returns-clause-stored
unfolding pick
returns-clause-stored c =
    let some : 0 < c.args.k.0 = omega (arith, c.if-k-eq0.false) in
    rw (lt-ltb 0 c.args.k.0 some)
