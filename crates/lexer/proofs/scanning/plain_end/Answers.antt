use Rattle.lexer.proofs.ByteBlocks.{blocks-ahead}
use Rattle.lexer.specs.ByteBlocks.{is_plain}
use lib.ListN.{length}
use Rattle.lexer.proofs.PlainRuns.{plain-next, plain-stops, plain_over, plain-blocks}
use mathlib.Core.Path.{◌≡◌, sym, ◌∙◌}
use native.Mathlib.Omega.{arith}
use Rattle.lexer.proofs.scanning.plain_end.Goals as goal

pub returns-then-text-from : goal.returns-then-text-from
returns-then-text-from c = sym (plain_over _ _ c.if-text-from.true)

pub loop-i-init : goal.loop-i-init
loop-i-init c = plain-blocks _ _ _ (omega arith) c.word_blocks-i.ensures

pub returns-then-not-plain : goal.returns-then-not-plain
returns-then-not-plain c =
    sym (plain-stops _ _ c.loop-i-test.true (sym c.plain.ensures ∙ c.if-not-plain.true)) ∙ c.loop-i.invariant

pub loop-i-preserved : goal.loop-i-preserved
loop-i-preserved c =
    sym (plain-next _ _ c.loop-i-test.true (sym c.plain.ensures ∙ c.if-not-plain.false)) ∙ c.loop-i.invariant

pub returns : goal.returns
returns c =
    let start = (blocks-ahead is_plain c.args.text.now 8 c.args.from (omega arith)).1 in
    let end : length c.args.text.now ≡ c.loop-i.i = omega (arith, c.word_blocks-i.ensures, start, c.loop-i.auto.i-end (omega (arith, c.word_blocks-i.ensures, start))) in
    end ∙ sym (plain_over _ _ c.loop-i-test.false) ∙ c.loop-i.invariant
