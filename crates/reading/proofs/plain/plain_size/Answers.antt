-- The function `plain-size` meets its contract, type by type. Assumes nothing.
use Rattle.emit.proofs.DigitsStored.{digits-most}
use Rattle.reading.proofs.CharacterPuts.{plain-ordered, plain-unordered}
use mathlib.Core.List.{[]}
use native.Mathlib.Omega.{arith}
use Rattle.reading.proofs.plain.plain_size.Goals as goal

pub overflow_add-result : goal.overflow_add-result
overflow_add-result c = omega (arith, c.digits_of-digits.ensures, digits-most 19 c.args.number (omega arith))

pub overflow_add-result-in-Ordered : goal.overflow_add-result-in-Ordered
overflow_add-result-in-Ordered c = omega (arith, c.digits_of-digits.ensures, digits-most 19 c.args.number (omega arith))

pub returns-in-Unordered : goal.returns-in-Unordered
returns-in-Unordered c =
    let d = c.digits_of-digits in
    let number = c.args.number in
    record { value = omega (arith, d.ensures, plain-unordered number _ c.in-Unordered.is []); upper_bound = omega (arith, d.ensures, digits-most 19 number (omega arith)) }

pub returns-in-Ordered : goal.returns-in-Ordered
returns-in-Ordered c =
    let d = c.digits_of-digits in
    let number = c.args.number in
    record { value = omega (arith, d.ensures, plain-ordered number _ c.in-Ordered.is []); upper_bound = omega (arith, d.ensures, digits-most 19 number (omega arith)) }
