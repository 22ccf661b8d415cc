-- The function `mark_state` meets its contract: a code from 96 on has no state. Assumes nothing.
use Rattle.lexer.specs.Base.{pick}
use Rattle.reading.proofs.MarkLaws.{states-high, states-low}
use Rattle.reading.specs.CodedCells.{marked, topped}
use Rattle.lexer.proofs.Basics.{by-test}
use borrow.Author.Tests.{ltb-false, ltb-true}
use lib.Dec.{ltb}
use native.Mathlib.Omega.{arith}
use Rattle.reading.proofs.sets.mark_state.Goals as goal

pub returns-then-code-ge96 : goal.returns-then-code-ge96
unfolding marked topped
returns-then-code-ge96 c = let e = states-high _ c.if-code-ge96.true in record { grown = rw e; within = rw e }

pub returns : goal.returns
unfolding marked topped pick
returns c =
    let e = states-low _ c.if-code-ge96.false in
    let i = c.args.code in
    let top = c.args.top in
    let last =
    by-test (ltb i top)
    (λ t. let h = ltb-true i top t in rw (e, t) (omega (arith, c.max.ensures)))
    (λ f. let h = ltb-false i top f in rw (e, f) (omega (arith, c.max.ensures))) in
    record { grown = rw e; within = last }
