use Rattle.std.specs.Prelude.{None}
use Rattle.lexer.specs.Base.{option_of}
use Rattle.block.specs.Judged.{judged}
use Rattle.matrix.proofs.ArrangeWalk.{arranging-start, word-here, found-place, arranging-newline, arranging-absent, arranging-turn, store-indexed, arranging-end}
use borrow.Author.Rules.{rules}
use mathlib.Core.Path.{◌≡◌, sym, ◌∙◌}
use native.Mathlib.Omega.{arith}
use Rattle.matrix.proofs.order.arrange_names.Goals as goal

pub loop-i-init : goal.loop-i-init
loop-i-init c = (arranging-start _ _ _ _ _ _ _ _, c.requires.2)

pub loop-i-preserved-then-newline : goal.loop-i-preserved-then-newline
loop-i-preserved-then-newline c =
    let w = word-here _ _ _ _ _ _ _ _ c.requires.0 _ _ _ c.loop-i.invariant.0 c.loop-i-test.true in
    (arranging-newline _ _ _ _ _ _ _ _ c.requires.0 _ _ _ c.loop-i.invariant.0 c.loop-i-test.true (rw (← w) (sym c.newline.ensures ∙ c.if-newline.true)), c.loop-i.invariant.1)

pub loop-i-preserved : goal.loop-i-preserved
unfolding option_of
loop-i-preserved c =
    let w = word-here _ _ _ _ _ _ _ _ c.requires.0 _ _ _ c.loop-i.invariant.0 c.loop-i-test.true in
    let a = c.loop-i.invariant.0 in
    let found = rw c.in-Some.is at c.row_found.ensures.result_value in (
      arranging-turn _ _ _ _ _ _ _ _ c.requires.0 _ _ _ a c.loop-i-test.true (rw (← w) (sym c.newline.ensures ∙ c.if-newline.false)) _ (λ taken same below differ. found-place _ _ _ _ _ _ _ _ c.requires.0 _ _ _ a _ c.loop-i-test.true taken same below (found (c.loop-i.invariant.1 below))),
      λ below. store-indexed _ _ _ _ _ _ _ _ c.requires.0 _ _ _ a c.loop-i-test.true (rw (← w) (sym c.newline.ensures ∙ c.if-newline.false)) _ _ (omega (arith, c.requires.1.begins)) (omega (arith, c.requires.1.begins, c.requires.1.ahead)) below (c.loop-i.invariant.1 below),
    )

pub returns-in_default : goal.returns-in_default
unfolding judged option_of
returns-in_default c =
    let a = c.loop-i.invariant.0 in
    let w = word-here _ _ _ _ _ _ _ _ c.requires.0 _ _ _ a c.loop-i-test.true in
    let none : c.row_found.result ≡ None = search rules in
    let found = rw none at c.row_found.ensures.result_value in
    record {
      size = a.size;
      kept = a.kept;
      each = λ taken same below differ. arranging-absent _ _ _ _ _ _ _ _ c.requires.0 _ _ _ a c.loop-i-test.true (rw (← w) (sym c.newline.ensures ∙ c.if-newline.false)) taken same below differ (found-place _ _ _ _ _ _ _ _ c.requires.0 _ _ _ a _ c.loop-i-test.true taken same below (found (c.loop-i.invariant.1 below)));
    }

pub returns : goal.returns
unfolding judged
returns c = let a = c.loop-i.invariant.0 in record { size = a.size; kept = a.kept; each = arranging-end _ _ _ _ _ _ _ _ c.requires.0 _ _ _ a c.loop-i-test.false }
