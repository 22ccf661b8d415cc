use Rattle.matrix.proofs.SetLaws.{rising-high, rising_none, rising-other, rising-turn}
use Rattle.matrix.specs.WholeSets.{is_simple}
use borrow.Author.Tests.{not-false, not-true}
use mathlib.Core.Path.{sym, ◌∙◌}
use native.Mathlib.Omega.{arith}
use Rattle.matrix.proofs.sets.rises.Goals as goal

pub returns-then-code-least : goal.returns-then-code-least
returns-then-code-least c =
    let here = c.loop-i-test.true in
    sym (rising-high _ _ _ _ _ _ c.entry_of-code.ensures here (omega (arith, here, c.requires)) c.if-code-least.true) ∙ c.loop-i.invariant

pub returns-then-not-is_ascii_alphanumeric : goal.returns-then-not-is_ascii_alphanumeric
unfolding is_simple
returns-then-not-is_ascii_alphanumeric c =
    let here = c.loop-i-test.true in
    sym (rising-other _ _ _ _ _ _ c.entry_of-code.ensures here (omega (arith, here, c.requires)) (sym c.is_ascii_alphanumeric.ensures.value ∙ not-true _ c.if-not-is_ascii_alphanumeric.true-raw)) ∙ c.loop-i.invariant

pub loop-i-preserved : goal.loop-i-preserved
unfolding is_simple
loop-i-preserved c =
    let here = c.loop-i-test.true in
    sym (rising-turn _ _ _ _ _ _ c.entry_of-code.ensures here (omega (arith, here, c.requires)) c.if-code-least.false (sym c.is_ascii_alphanumeric.ensures.value ∙ not-false _ c.if-not-is_ascii_alphanumeric.false-raw)) ∙ c.loop-i.invariant

pub returns : goal.returns
returns c = sym (rising_none _ _ _ _ _ c.loop-i-test.false) ∙ c.loop-i.invariant
