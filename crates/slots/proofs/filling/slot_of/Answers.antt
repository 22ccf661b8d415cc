-- The function `slot_of` meets its contract. Assumes nothing.
use Rattle.slots.specs.Filling.{slot_of}
use mathlib.Core.Path.{refl}
use native.Mathlib.Nat.{mul-le-mul, mul-le-mul_right}
use native.Mathlib.Omega.{arith}
use Rattle.slots.proofs.filling.slot_of.Goals as goal

pub overflow_mul-result : goal.overflow_mul-result
overflow_mul-result c = let m = mul-le-mul {n₁ = c.args.h} {m₁ = c.args.table.size} {n₂ = 4294967295} {m₂ = 4294967296} (omega (arith, c.requires.1)) c.requires.0.few in omega (arith, m)

pub overflow_add-result : goal.overflow_add-result
overflow_add-result c =
    let m = mul-le-mul_right {m = c.args.h} {n = 4294967296} c.args.table.size (omega (arith, c.requires.1)) in
    omega (arith, m, c.requires.0.small)

pub returns : goal.returns
unfolding slot_of
returns c = refl
