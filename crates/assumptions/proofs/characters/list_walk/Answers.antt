-- The function `list_walk` meets its contract. Assumes nothing.
use Rattle.std.specs.Prelude.{Ok, Err, []}
use Rattle.std.proofs.lemmas.Result.{err_from_is_err_and}
use Rattle.assumptions.proofs.ListWalks.{listing_start, listing-newline, listing-turn, listing-over, listing-comma, listing-end}
use Rattle.assumptions.specs.ListCode.{list_then}
use Rattle.block.specs.Judged.{judged}
use Rattle.block.specs.Outcome.{then}
use mathlib.Core.Path.{refl, sym, ◌∙◌}
use Rattle.assumptions.proofs.characters.list_walk.Goals as goal

pub loop-j-init : goal.loop-j-init
loop-j-init c = listing_start _ _ _ _ _ _ _ _

pub loop-j-preserved-then-newline : goal.loop-j-preserved-then-newline
loop-j-preserved-then-newline c = listing-newline _ _ _ _ _ _ _ _ c.requires.0 _ _ _ _ c.loop-j.invariant c.loop-j-test.true (sym c.newline.ensures ∙ c.if-newline.true)

pub returns-then-punct-clause-answer : goal.returns-then-punct-clause-answer
unfolding list_then judged then
returns-then-punct-clause-answer c = listing-comma _ _ _ _ _ _ _ _ c.requires.0 _ _ _ _ c.loop-j.invariant c.loop-j-test.true (sym c.newline.ensures ∙ c.if-newline.false) (sym c.punct.ensures ∙ c.if-punct.true) _ (Ok tt) (c.in_ok-list_end.ensures.answer _ _ c.loop-j.invariant.gives)

pub returns-in_err-list_end-clause-answer : goal.returns-in_err-list_end-clause-answer
unfolding list_then judged then
returns-in_err-list_end-clause-answer c =
    let r = err_from_is_err_and c.from_residual.result c.from_residual.ensures.1 in
    rw (r.1, r.2) (listing-comma _ _ _ _ _ _ _ _ c.requires.0 _ _ _ _ c.loop-j.invariant c.loop-j-test.true (sym c.newline.ensures ∙ c.if-newline.false) (sym c.punct.ensures ∙ c.if-punct.true) [] (Err _) (c.in_err-list_end.ensures.answer _ _ c.loop-j.invariant.gives))

pub loop-j-preserved : goal.loop-j-preserved
loop-j-preserved c =
    let word = c.in_ok-next.ensures in
    listing-turn _ _ _ _ _ _ _ _ c.requires.0 _ _ _ _ c.loop-j.invariant c.loop-j-test.true (sym c.newline.ensures ∙ c.if-newline.false) (sym c.punct.ensures ∙ c.if-punct.false) _ _ (word.answer _ _ c.loop-j.invariant.gives) c.list_word.auto.work word.front _ refl

pub returns-in_err-next-clause-answer : goal.returns-in_err-next-clause-answer
unfolding list_then judged
returns-in_err-next-clause-answer c =
    let r = err_from_is_err_and c.from_residual-in_err-next.result c.from_residual-in_err-next.ensures.1 in
    rw (r.1, r.2) (listing-over _ _ _ _ _ _ _ _ c.requires.0 _ _ _ _ c.loop-j.invariant c.loop-j-test.true (sym c.newline.ensures ∙ c.if-newline.false) (sym c.punct.ensures ∙ c.if-punct.false) _ _ (c.in_err-next.ensures.answer _ _ c.loop-j.invariant.gives) _ _ refl)

pub returns-in_err-list_end-2-clause-answer : goal.returns-in_err-list_end-2-clause-answer
unfolding list_then judged
returns-in_err-list_end-2-clause-answer c =
    let r = err_from_is_err_and c.from_residual-in_err-list_end-2.result c.from_residual-in_err-list_end-2.ensures.1 in
    rw (r.1, r.2) (listing-end _ _ _ _ _ _ _ _ c.requires.0 _ _ _ _ c.loop-j.invariant c.loop-j-test.false [] (Err _) (c.in_err-list_end-2.ensures.answer _ _ c.loop-j.invariant.gives))

pub returns-clause-answer : goal.returns-clause-answer
unfolding list_then judged
returns-clause-answer c = listing-end _ _ _ _ _ _ _ _ c.requires.0 _ _ _ _ c.loop-j.invariant c.loop-j-test.false _ (Ok tt) (c.in_ok-list_end-2.ensures.answer _ _ c.loop-j.invariant.gives)
