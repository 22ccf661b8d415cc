use Rattle.assumptions.proofs.DigitWords.{told-digit, told-end, told-long, told-other, told_over}
use mathlib.Core.Path.{sym, ◌∙◌}
use Rattle.assumptions.proofs.told.word_number.Goals as goal

pub returns-then-ends_word : goal.returns-then-ends_word
returns-then-ends_word c =
    sym (told-end _ _ _ c.loop-i-test.true c.if-not-digit.true (sym c.ends_word.ensures ∙ c.if-ends_word.true)) ∙ c.loop-i.invariant

pub returns-else-ends_word : goal.returns-else-ends_word
returns-else-ends_word c =
    sym (told-other _ _ _ c.loop-i-test.true c.if-not-digit.true (sym c.ends_word.ensures ∙ c.if-ends_word.false)) ∙ c.loop-i.invariant

pub returns-then-n : goal.returns-then-n
returns-then-n c =
    sym (told-long _ _ _ c.loop-i-test.true c.if-not-digit.false c.if-n.true) ∙ c.loop-i.invariant

pub loop-i-preserved : goal.loop-i-preserved
loop-i-preserved c =
    sym (told-digit _ _ _ c.loop-i-test.true c.if-not-digit.false c.if-n.false) ∙ c.loop-i.invariant

pub returns : goal.returns
returns c = sym (told_over _ _ _ c.loop-i-test.false) ∙ c.loop-i.invariant
