use Rattle.lexer.proofs.AsciiRuns.{running-start, running-turn, running-stops, running-end}
use lib.ListN.{length}
use mathlib.Core.Path.{◌≡◌, ◌∙◌}
use native.Mathlib.Omega.{arith}
use Rattle.lexer.proofs.utf8.ascii_run.Goals as goal

pub loop-i-init : goal.loop-i-init
loop-i-init c = running-start _ _ _ c.requires c.ascii_blocks-i.ensures

pub returns-then-text-i-ge128 : goal.returns-then-text-i-ge128
returns-then-text-i-ge128 c = running-stops _ _ _ c.loop-i.invariant c.loop-i-test.true c.if-text-i-ge128.true

pub loop-i-preserved : goal.loop-i-preserved
loop-i-preserved c = running-turn _ _ _ c.loop-i.invariant c.loop-i-test.true c.if-text-i-ge128.false

pub returns : goal.returns
returns c =
    let end : length c.args.text.now ≡ c.loop-i.i = omega (arith, c.loop-i.invariant.within) in
    end ∙ running-end _ _ _ c.loop-i.invariant c.loop-i-test.false
