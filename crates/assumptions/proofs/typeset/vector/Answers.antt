-- The function `vector` meets its contract. Assumes nothing.
use Rattle.assumptions.proofs.VectorTypes.{vector-empty, vector-count}
use Rattle.assumptions.specs.TypesetWalk.{typeset_at}
use Rattle.block.specs.Judged.{judged}
use mathlib.Core.List.{[]}
use mathlib.Core.Option.{none}
use mathlib.Core.Path.{sym, ◌∙◌}
use native.Mathlib.Omega.{arith}
use Rattle.assumptions.proofs.typeset.vector.Goals as goal

pub returns-then-count-eq0-clause-answer : goal.returns-then-count-eq0-clause-answer
unfolding judged typeset_at
returns-then-count-eq0-clause-answer c = vector-empty _ _ _ (sym c.if-count-eq0.true ∙ c.count_words-count.ensures)

pub returns-then-count-held-clause-answer : goal.returns-then-count-held-clause-answer
unfolding judged typeset_at
returns-then-count-held-clause-answer c =
    let count = c.count_words-count.ensures in
    sym (vector-count _ _ [] none _ (λ e. c.if-count-held.true (omega (arith, e, count))) (omega (arith, count, c.if-count-eq0.false)))
