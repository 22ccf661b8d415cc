use Rattle.emit.proofs.DigitsStored.{digits-most, digits-put, storing-end, storing-fits, storing-last, storing-pair, storing-size, storing-start}
use mathlib.Core.Path.{◌∙◌}
use native.Mathlib.Omega.{arith}
use Rattle.emit.proofs.put_digits.Goals as goal

pub overflow_add-end : goal.overflow_add-end
overflow_add-end c = omega (arith, c.digits_of.ensures, digits-most 19 c.args.value (omega arith), c.requires)

pub loop-rest-init : goal.loop-rest-init
loop-rest-init c = rw c.digits_of.ensures (storing-start _ _ _ c.requires (omega arith))

pub store_pair-requires : goal.store_pair-requires
store_pair-requires c = storing-fits _ _ _ _ _ _ c.loop-rest.invariant (omega arith)

pub overflow_sub-at : goal.overflow_sub-at
overflow_sub-at c = omega (arith, storing-fits _ _ _ _ _ _ c.loop-rest.invariant (omega arith))

pub loop-rest-preserved : goal.loop-rest-preserved
loop-rest-preserved c = rw c.store_pair.ensures (storing-pair _ _ _ _ _ _ c.loop-rest.invariant c.loop-rest-test.true)

pub bounds-buffer-n : goal.bounds-buffer-n
bounds-buffer-n c =
    omega (arith, storing-size _ _ _ _ _ _ c.loop-rest.invariant, c.requires)

pub returns-then-rest-lt10 : goal.returns-then-rest-lt10
returns-then-rest-lt10 c =
    rw c.last_digit.ensures (digits-put _ _ _ _ _ (omega arith) (storing-end _ _ _ _ _ _ c.loop-rest.invariant c.if-rest-lt10.true) c.digits_of.ensures)

pub store_pair-requires-2 : goal.store_pair-requires-2
store_pair-requires-2 c = storing-fits _ _ _ _ _ _ c.loop-rest.invariant (omega arith)

pub returns : goal.returns
returns c =
    digits-put _ _ _ _ _ (omega arith) (c.store_pair-2.ensures ∙ storing-last _ _ _ _ _ _ c.loop-rest.invariant c.if-rest-lt10.false (omega arith)) c.digits_of.ensures
