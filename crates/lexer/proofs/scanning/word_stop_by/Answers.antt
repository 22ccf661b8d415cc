use Rattle.lexer.proofs.PlainRuns.{plain-next, plain_over, plain-stops}
use Rattle.lexer.proofs.WordsTold.{stands-end, stands_on, stop-here, stop-other, stop-past}
use borrow.Author.Tests.{eq-eqb, le-leb, lt-leb, ne_eqb}
use mathlib.Core.Path.{refl, sym, ◌∙◌}
use native.Mathlib.Omega.{arith}
use Rattle.lexer.proofs.scanning.word_stop_by.Goals as goal

pub loop-i-init : goal.loop-i-init
loop-i-init c = refl

pub returns-then-stands-ge2 : goal.returns-then-stands-ge2
returns-then-stands-ge2 c =
    let pre = c.requires in
    let here = c.loop-i-test.true in
    let other = stands_on _ pre _ _ c.entry_of-stands.ensures (omega arith) ∙ ne_eqb _ _ c.if-stands-ne1.true in
    let ends = stands-end _ pre _ _ c.entry_of-stands.ensures (omega arith) ∙ le-leb _ _ c.if-stands-ge2.true in
    stop-here _ _ _ (sym (plain-stops _ _ here other) ∙ c.loop-i.invariant) here ends

pub returns-then-stands-ne1 : goal.returns-then-stands-ne1
returns-then-stands-ne1 c =
    let pre = c.requires in
    let other = stands_on _ pre _ _ c.entry_of-stands.ensures (omega arith) ∙ ne_eqb _ _ c.if-stands-ne1.true in
    let more = stands-end _ pre _ _ c.entry_of-stands.ensures (omega arith) ∙ lt-leb _ _ c.if-stands-ge2.false in
    stop-other _ _ _ (sym (plain-stops _ _ c.loop-i-test.true other) ∙ c.loop-i.invariant) more

pub loop-i-preserved : goal.loop-i-preserved
loop-i-preserved c =
    let plain = stands_on _ c.requires _ _ c.entry_of-stands.ensures (omega arith) ∙ eq-eqb _ _ c.if-stands-ne1.false in
    sym (plain-next _ _ c.loop-i-test.true plain) ∙ c.loop-i.invariant

pub returns : goal.returns
returns c = stop-past _ _ _ (sym (plain_over _ _ c.loop-i-test.false) ∙ c.loop-i.invariant) c.loop-i-test.false
