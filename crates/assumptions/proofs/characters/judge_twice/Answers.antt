-- The function `judge_twice` meets its contract. Assumes nothing.
use Rattle.assumptions.specs.TypesHeld.{unless_twice}
use Rattle.block.specs.Judged.{judged}
use Rattle.block.specs.Outcome.{need}
use Rattle.lexer.specs.Base.{pick}
use Rattle.assumptions.proofs.characters.judge_twice.Goals as goal

pub returns-then-twice : goal.returns-then-twice
unfolding judged need unless_twice pick
returns-then-twice c = λ us. rw c.if-twice.true

pub returns : goal.returns
unfolding judged need unless_twice pick
returns c = λ us. rw c.if-twice.false
