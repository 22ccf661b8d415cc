use Rattle.std.proofs.lemmas.Result.{err_from_is_err_and}
use Rattle.lexer.proofs.SymbolTags.{continues, stops}
use Rattle.lexer.proofs.WordBlocks.{word_next, plain-ahead, wording-start, wording-blocks, wording-skips}
use Rattle.lexer.proofs.WordEnds.{word-goes-on, word_over, word-skips, skip-ahead, word-last}
use mathlib.Core.Path.{refl, sym, ◌∙◌}
use native.Mathlib.Omega.{arith}
use Rattle.lexer.proofs.scanning.word_end.Goals as goal

pub loop-i-init : goal.loop-i-init
loop-i-init c = let h = c.requires in wording-blocks _ _ _ h c.word_blocks-i.ensures _ (wording-start _ _ h)

pub loop-i-preserved-then-plain : goal.loop-i-preserved-then-plain
loop-i-preserved-then-plain c =
    record { ahead = omega arith; within = omega arith; rest = sym (word_next _ _ c.loop-i-test.true (sym c.plain.ensures ∙ c.if-plain.true)) ∙ c.loop-i.invariant.rest }

pub loop-i-preserved-in-Other : goal.loop-i-preserved-in-Other
loop-i-preserved-in-Other c =
    let same = word-goes-on _ _ c.loop-i-test.true _ c.symbol_at.ensures (continues _ c.in-Other.is) in
    record { ahead = omega arith; within = omega arith; rest = sym same ∙ c.loop-i.invariant.rest }

pub word_blocks-i-requires-in-Open : goal.word_blocks-i-requires-in-Open
word_blocks-i-requires-in-Open c =
    (skip-ahead _ _ c.loop-i-test.true _ c.in_ok-comment_end-in-Open.ensures _ refl).1

pub loop-i-smaller : goal.loop-i-smaller
loop-i-smaller c =
    let ahead = skip-ahead _ _ c.loop-i-test.true _ c.in_ok-comment_end-in-Open.ensures _ refl in
    let further = plain-ahead _ _ _ ahead.1 c.word_blocks-i-in-Open.ensures in
    omega arith

pub loop-i-preserved : goal.loop-i-preserved
loop-i-preserved c =
    let ahead = skip-ahead _ _ c.loop-i-test.true _ c.in_ok-comment_end-in-Open.ensures _ refl in
    let same = word-skips _ _ c.loop-i-test.true _ c.symbol_at.ensures c.in-Open.is _ c.in_ok-comment_end-in-Open.ensures in
    let behind = wording-skips _ _ _ _ _ c.loop-i.invariant ahead same refl in
    wording-blocks _ _ _ ahead.1 c.word_blocks-i-in-Open.ensures _ behind

pub returns-in_err-comment_end-in-Open : goal.returns-in_err-comment_end-in-Open
returns-in_err-comment_end-in-Open c =
    let same = word-skips _ _ c.loop-i-test.true _ c.symbol_at.ensures c.in-Open.is _ c.in_err-comment_end-in-Open.ensures in
    let p = err_from_is_err_and c.from_residual.result c.from_residual.ensures.1 in
    rw (p.1, p.2) (sym same ∙ c.loop-i.invariant.rest)

pub returns-in_default : goal.returns-in_default
returns-in_default c =
    sym (word_over _ _ c.loop-i-test.true _ c.symbol_at.ensures (stops _ c.in_default.not-Other c.in_default.not-Part c.in_default.not-Open)) ∙ c.loop-i.invariant.rest

pub returns : goal.returns
returns c = sym (word-last _ _ c.loop-i-test.false) ∙ c.loop-i.invariant.rest
