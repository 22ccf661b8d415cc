use Rattle.judging.proofs.NumberLaws.{valuing-end, valuing-high, valuing-low, valuing-many, valuing-start, valuing-turn}
use Rattle.judging.proofs.numbers.leading.Goals as goal

pub loop-at-init : goal.loop-at-init
loop-at-init c = valuing-start _ _

pub returns-then-b-lt48 : goal.returns-then-b-lt48
returns-then-b-lt48 c =
    valuing-low _ _ _ _ c.loop-at.invariant c.loop-at-test.true c.if-b-lt48.true

pub returns-then-b-gt57 : goal.returns-then-b-gt57
returns-then-b-gt57 c =
    valuing-high _ _ _ _ c.loop-at.invariant c.loop-at-test.true c.if-b-gt57.true

pub returns-then-value-gt1048576 : goal.returns-then-value-gt1048576
returns-then-value-gt1048576 c =
    valuing-many _ _ _ _ c.loop-at.invariant c.loop-at-test.true c.if-value-gt1048576.true

pub loop-at-preserved : goal.loop-at-preserved
loop-at-preserved c =
    valuing-turn _ _ _ _ c.loop-at.invariant c.loop-at-test.true c.if-b-lt48.false c.if-b-gt57.false c.if-value-gt1048576.false

pub returns : goal.returns
returns c = valuing-end _ _ _ _ c.loop-at.invariant c.loop-at-test.false
