-- The function `options` meets its contract: three words, one by one, and no fourth. Assumes nothing.
use Rattle.std.specs.Prelude.{Option, Some, None, is_some}
use Rattle.assumptions.proofs.NextWordLaws.{missed}
use Rattle.block.specs.Outcome.{outcome}
use Rattle.block.specs.Blocks.{options}
use Rattle.lexer.specs.Base.{pick, bytes}
use Rattle.lexer.specs.Stored.{word_of}
use mathlib.Core.Bool.{true, false, false≢true, true≢false}
use mathlib.Core.Path.{◌≡◌, refl, sym, ◌∙◌}
use native.Mathlib.Omega.{arith}
use Rattle.assumptions.proofs.assumptions.options.Goals as goal

some-is : {X : Type 0} (r : Option X) → is_some r ≡ true → (j : X) × (r ≡ Some j)
some-is None e = absurd (false≢true e)
some-is (Some j) e = (j, refl)

none-is : {X : Type 0} (r : Option X) → is_some r ≡ false → r ≡ None
none-is None e = refl
none-is (Some j) e = absurd (true≢false e)

pub returns-in_err-key : goal.returns-in_err-key
unfolding options outcome word_of pick bytes
returns-in_err-key c = let p = missed c.word_ahead.ensures _ c.from_residual.ensures.1 c.in_err-key.ensures.value c.in_err-key.ensures.ok_part in rw (p.0, p.1)

pub overflow_add-key : goal.overflow_add-key
overflow_add-key c = let k = (c.word_ahead.ensures.some _ c.in_ok-key.ensures.ok_part) in omega (arith, k.within)

pub returns-in_err-equals : goal.returns-in_err-equals
unfolding options outcome word_of pick bytes
returns-in_err-equals c =
    let p = missed c.word_ahead-2.ensures _ c.from_residual-in_err-equals.ensures.1 c.in_err-equals.ensures.value c.in_err-equals.ensures.ok_part in
    let k = (c.word_ahead.ensures.some _ c.in_ok-key.ensures.ok_part) in
    rw (p.0, k.here, p.1)

pub overflow_add-equals : goal.overflow_add-equals
overflow_add-equals c = let k = (c.word_ahead-2.ensures.some _ c.in_ok-equals.ensures.ok_part) in omega (arith, k.within)

pub returns-in_err-value : goal.returns-in_err-value
unfolding options outcome word_of pick bytes
returns-in_err-value c =
    let p = missed c.word_ahead-3.ensures _ c.from_residual-in_err-value.ensures.1 c.in_err-value.ensures.value c.in_err-value.ensures.ok_part in
    let k = (c.word_ahead.ensures.some _ c.in_ok-key.ensures.ok_part) in
    let e = (c.word_ahead-2.ensures.some _ c.in_ok-equals.ensures.ok_part) in
    rw (p.0, k.here, e.here, p.1)

pub overflow_add-value : goal.overflow_add-value
overflow_add-value c = let k = (c.word_ahead-3.ensures.some _ c.in_ok-value.ensures.ok_part) in omega (arith, k.within)

pub returns-then-is_some : goal.returns-then-is_some
unfolding options outcome word_of pick bytes
returns-then-is_some c =
    let k = (c.word_ahead.ensures.some _ c.in_ok-key.ensures.ok_part) in
    let e = (c.word_ahead-2.ensures.some _ c.in_ok-equals.ensures.ok_part) in
    let v = (c.word_ahead-3.ensures.some _ c.in_ok-value.ensures.ok_part) in
    let m = some-is c.word_ahead-4.result (sym c.is_some.ensures ∙ c.if-is_some.true) in
    let n = c.word_ahead-4.ensures.some _ m.1 in
    rw (k.here, e.here, v.here, n.here)

pub returns-then-is-punct : goal.returns-then-is-punct
unfolding options outcome word_of pick bytes
returns-then-is-punct c =
    let k = (c.word_ahead.ensures.some _ c.in_ok-key.ensures.ok_part) in
    let e = (c.word_ahead-2.ensures.some _ c.in_ok-equals.ensures.ok_part) in
    let v = (c.word_ahead-3.ensures.some _ c.in_ok-value.ensures.ok_part) in
    let n = c.word_ahead-4.ensures.none (none-is c.word_ahead-4.result (sym c.is_some.ensures ∙ c.if-is_some.false)) in
    rw (k.here, e.here, v.here, n, ← c.is.ensures, ← c.punct.ensures, c.if-is-punct.true) c.type_word.ensures

pub returns : goal.returns
unfolding options outcome word_of pick bytes
returns c =
    let k = (c.word_ahead.ensures.some _ c.in_ok-key.ensures.ok_part) in
    let e = (c.word_ahead-2.ensures.some _ c.in_ok-equals.ensures.ok_part) in
    let v = (c.word_ahead-3.ensures.some _ c.in_ok-value.ensures.ok_part) in
    let n = c.word_ahead-4.ensures.none (none-is c.word_ahead-4.result (sym c.is_some.ensures ∙ c.if-is_some.false)) in
    rw (k.here, e.here, v.here, n, ← c.is.ensures, ← c.punct.ensures, c.if-is-punct.false)
