use Rattle.judging.proofs.KeyLaws.{word-short}
use Rattle.judging.proofs.NumberLaws.{digits-end, digits-other, digits-start, digits-turn}
use Rattle.record.specs.Decimal.{digit}
use native.Mathlib.Omega.{arith}
use Rattle.judging.proofs.numbers.decimal_at.Goals as goal

pub returns-then-bytes_from-count : goal.returns-then-bytes_from-count
returns-then-bytes_from-count c = word-short _ _ _ (omega (arith, c.bytes_from.ensures, c.digits_of-count.ensures, c.if-bytes_from-count.true))

pub loop-k-init : goal.loop-k-init
loop-k-init c = digits-start _ _ _ _ c.digits_of-count.ensures

pub returns-then-source-i : goal.returns-then-source-i
unfolding digit
returns-then-source-i c = digits-other _ _ _ _ _ c.loop-k.invariant c.loop-k-test.true c.if-source-i.true

pub loop-k-preserved : goal.loop-k-preserved
unfolding digit
loop-k-preserved c =
    let some = c.loop-k-test.true in
    digits-turn _ _ _ _ _ c.loop-k.invariant some (omega (arith, some, c.loop-k.invariant.few, c.if-bytes_from-count.false, c.bytes_from.ensures, c.digits_of-count.ensures)) c.if-source-i.false

pub returns : goal.returns
returns c = digits-end _ _ _ _ _ _ c.loop-k.invariant c.loop-k-test.false c.digits_of-count.ensures
