-- The function `vector_types` meets its contract. Assumes nothing.
use Rattle.std.proofs.lemmas.Result.{err_from_is_err_and}
use Rattle.assumptions.proofs.VectorTypes.{vectoring-start, vectoring-newline, vectoring-room, vectoring-turn, vectoring-over, vectoring-end}
use Rattle.block.specs.Judged.{judged}
use Rattle.block.specs.Outcome.{outcome}
use mathlib.Core.Path.{sym, ◌∙◌}
use native.Mathlib.Omega.{arith}
use Rattle.assumptions.proofs.typeset.vector_types.Goals as goal

pub loop-j-init : goal.loop-j-init
loop-j-init c = vectoring-start _ _ _ _ _ _ _ c.requires.to_len

pub loop-j-preserved-then-newline : goal.loop-j-preserved-then-newline
loop-j-preserved-then-newline c = vectoring-newline _ _ _ _ _ _ _ c.requires.to_le_at.0 _ _ _ c.loop-j.invariant c.loop-j-test.true (sym c.newline.ensures ∙ c.if-newline.true)

pub bounds-work-held : goal.bounds-work-held
bounds-work-held c =
    let room = vectoring-room _ _ _ _ _ _ _ c.requires.to_le_at.0 _ _ _ c.loop-j.invariant c.loop-j-test.true (sym c.newline.ensures ∙ c.if-newline.false) in
    omega (arith, room, c.loop-j.invariant.size, c.requires.to_le_at.1)

pub loop-j-preserved : goal.loop-j-preserved
unfolding outcome
loop-j-preserved c = rw c.type_number.ensures (vectoring-turn _ _ _ _ _ _ _ c.requires.to_le_at.0 _ _ _ c.loop-j.invariant c.loop-j-test.true (sym c.newline.ensures ∙ c.if-newline.false) _ c.requires.to_le_at.1 c.in_ok-type_word.ensures)

pub returns-in_err-type_word-clause-answer : goal.returns-in_err-type_word-clause-answer
unfolding judged outcome
returns-in_err-type_word-clause-answer c =
    let r = err_from_is_err_and c.from_residual.result c.from_residual.ensures.1 in
    rw (r.1, r.2) (vectoring-over _ _ _ _ _ _ _ c.requires.to_le_at.0 _ _ _ c.loop-j.invariant c.loop-j-test.true (sym c.newline.ensures ∙ c.if-newline.false) _ c.requires.le_characters c.in_err-type_word.ensures)

pub returns-clause-answer : goal.returns-clause-answer
unfolding judged
returns-clause-answer c = vectoring-end _ _ _ _ _ _ _ c.requires.to_le_at.0 _ _ _ c.loop-j.invariant c.loop-j-test.false c.requires.le_characters
