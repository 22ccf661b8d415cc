use Rattle.lexer.proofs.ClassLaws.{plain-symbol}
use Rattle.lexer.proofs.SymbolTags.{continues, stops}
use Rattle.lexer.proofs.WordBlocks.{other-continues}
use Rattle.lexer.proofs.WordBytes.{ok-found, err-found, item-goes-on, item-over, item-skips, item-open, item-last}
use Rattle.lexer.proofs.WordEnds.{skip-ahead}
use mathlib.Core.Path.{refl, sym, ◌∙◌}
use native.Mathlib.Omega.{arith}
use Rattle.lexer.proofs.token.word_byte.Goals as goal

pub loop-i-init : goal.loop-i-init
loop-i-init c = refl

pub returns-then-plain : goal.returns-then-plain
returns-then-plain c =
    let t = sym c.plain.ensures ∙ c.if-plain.true in
    sym (item-goes-on _ _ c.loop-i-test.true _ (plain-symbol _ _ c.loop-i-test.true t) other-continues) ∙ c.loop-i.invariant

pub returns-in-Other : goal.returns-in-Other
returns-in-Other c =
    sym (item-goes-on _ _ c.loop-i-test.true _ c.symbol_at.ensures (continues _ c.in-Other.is)) ∙ c.loop-i.invariant

pub loop-i-smaller : goal.loop-i-smaller
loop-i-smaller c =
    let found = ok-found _ _ c.in_ok-i-in-Open.ensures.value in
    let ahead = skip-ahead _ _ c.loop-i-test.true _ c.comment_end.ensures _ found in
    omega arith

pub loop-i-preserved : goal.loop-i-preserved
loop-i-preserved c =
    let found = ok-found _ _ c.in_ok-i-in-Open.ensures.value in
    sym (item-skips _ _ c.loop-i-test.true _ c.symbol_at.ensures c.in-Open.is _ c.comment_end.ensures _ found) ∙ c.loop-i.invariant

pub returns-in_err-i-in-Open : goal.returns-in_err-i-in-Open
returns-in_err-i-in-Open c =
    let unended = err-found _ c.in_err-i-in-Open.ensures.value in
    rw c.from_residual.ensures (sym (item-open _ _ c.loop-i-test.true _ c.symbol_at.ensures c.in-Open.is _ c.comment_end.ensures _ unended.1) ∙ c.loop-i.invariant)

pub returns-in_default : goal.returns-in_default
returns-in_default c =
    sym (item-over _ _ c.loop-i-test.true _ c.symbol_at.ensures (stops _ c.in_default.not-Other c.in_default.not-Part c.in_default.not-Open)) ∙ c.loop-i.invariant

pub returns : goal.returns
returns c = sym (item-last _ _ c.loop-i-test.false) ∙ c.loop-i.invariant
