-- The function `row_turn` meets its contract: what is told at once is passed, then one word more, or a whole set. Assumes nothing.
use Rattle.matrix.proofs.SetLaws.{closes-told}
use Rattle.matrix.proofs.SetTurns.{row-turns, set-turns}
use Rattle.matrix.specs.RowShape.{so_far}
use Rattle.block.specs.Outcome.{outcome}
use native.Mathlib.Omega.{arith}
use Rattle.matrix.proofs.matrix.row_turn.Goals as goal

pub pass_words-passed-requires : goal.pass_words-passed-requires
unfolding so_far
pass_words-passed-requires c = (c.requires.0, rw c.in-Plain.is at c.requires.1)

pub returns-then-set_closes-eq0 : goal.returns-then-set_closes-eq0
returns-then-set_closes-eq0 c =
    λ taxa names. rw c.in-Plain.is (c.pass_words-passed.ensures.goes _ taxa names _ _ (row-turns _ _ _ _ _ _ _ _ _ _ c.plain_chunk-chunk.ensures c.row_grown.ensures))

pub overflow_add-last : goal.overflow_add-last
overflow_add-last c =
    let whole = (closes-told _ _ _ _ _ _ c.set_closes.ensures c.if-set_closes-eq0.false).whole in
    omega (arith, whole.room)

pub overflow_add-result-in-Plain : goal.overflow_add-result-in-Plain
overflow_add-result-in-Plain c =
    let whole = (closes-told _ _ _ _ _ _ c.set_closes.ensures c.if-set_closes-eq0.false).whole in
    omega (arith, whole.room)

pub set_chunk-chunk-requires : goal.set_chunk-chunk-requires
unfolding so_far
set_chunk-chunk-requires c = rw c.in-Within.is at c.requires.1

pub returns-else-set_closes-eq0 : goal.returns-else-set_closes-eq0
unfolding outcome
returns-else-set_closes-eq0 c =
    let whole = (closes-told _ _ _ _ _ _ c.set_closes.ensures c.if-set_closes-eq0.false).whole in
    λ taxa names. rw c.in-Plain.is (c.pass_words-passed.ensures.goes _ taxa names _ _ (set-turns _ _ _ _ _ _ _ _ _ _ whole c.row_grown-in-Plain.ensures))

pub returns-in-Within : goal.returns-in-Within
returns-in-Within c =
    λ taxa names. rw c.in-Within.is (row-turns _ _ _ _ _ _ _ _ _ _ c.set_chunk-chunk.ensures c.row_grown-in-Within.ensures)
