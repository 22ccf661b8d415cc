-- The function `digits_of` meets its contract: between two powers of ten the count is known. Assumes nothing.
use Prim.Native.Nat.{◌+◌, ◌^◌, ◌<◌}
use Rattle.emit.proofs.DigitsStored.{digits-one, digits_between}
use mathlib.Core.Path.{sym}
use Rattle.std.proofs.lemmas.Grind.{pow_more}
use native.Mathlib.Omega.{arith}
use Rattle.emit.proofs.digits_of.Goals as goal

pub returns-then-value-eq0 : goal.returns-then-value-eq0
returns-then-value-eq0 c = sym (digits-one _ (omega arith))

pub returns : goal.returns
returns c =
    let high : c.args.value < 10 ^ (c.ilog10.result + 1) = rw (pow_more 10 c.ilog10.result) (omega (arith, c.ilog10.ensures.next_power_gt)) in
    sym (digits_between c.ilog10.result _ c.ilog10.ensures.power_le high)
