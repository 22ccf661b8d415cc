use Rattle.judging.proofs.KeyLaws.{compared-other, compared_same, compared-start, compared-turn, word-short}
use native.Mathlib.Omega.{arith}
use Rattle.judging.proofs.keys.key_at.Goals as goal

pub returns-then-bytes_from-word : goal.returns-then-bytes_from-word
returns-then-bytes_from-word c = word-short _ _ _ (omega (arith, c.bytes_from.ensures, c.if-bytes_from-word.true))

pub loop-k-init : goal.loop-k-init
loop-k-init c = compared-start _ _ _

pub loop-k-preserved : goal.loop-k-preserved
loop-k-preserved c =
    compared-turn _ _ _ _ _ c.loop-k.invariant c.loop-k-test.true (omega (arith, c.loop-k-test.true, c.if-bytes_from-word.false, c.bytes_from.ensures))

pub returns-then-same : goal.returns-then-same
returns-then-same c = compared_same _ _ _ _ _ c.loop-k.invariant c.loop-k-test.false c.if-same.true

pub returns : goal.returns
returns c = compared-other _ _ _ _ _ c.loop-k.invariant c.if-same.false
