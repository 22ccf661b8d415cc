use Prim.Native.Nat.{◌<◌}
use Rattle.block.proofs.SymbolsDiffer.{passing-start, passing-turn, passing-over, passing-end, clash-more, clash-over}
use Rattle.block.specs.Format.{clashes}
use Rattle.block.specs.Formats.{meant}
use lib.ListN.{length, take}
use mathlib.Core.Path.{sym, ◌∙◌}
use native.Mathlib.Omega.{arith}
use Rattle.block.proofs.symbols.clashes.Goals as goal

pub loop-i-init : goal.loop-i-init
unfolding meant
loop-i-init c = passing-start _ _ _ _

pub returns-then-equal : goal.returns-then-equal
unfolding meant
returns-then-equal c =
    let f = c.args.f in
    let below : c.loop-i.i < length (take f.count f.symbols) = omega (arith, c.loop-i-test.true, c.states-count.ensures.0) in
    passing-over _ _ _ c.loop-i.invariant below _ (clash-over _ _ _ _ (sym c.equal.ensures ∙ c.if-equal.true))

pub loop-i-preserved : goal.loop-i-preserved
unfolding meant
loop-i-preserved c =
    let f = c.args.f in
    let below : c.loop-i.i < length (take f.count f.symbols) = omega (arith, c.loop-i-test.true, c.states-count.ensures.0) in
    passing-turn _ _ _ c.loop-i.invariant below (clash-more _ _ _ _ (sym c.equal.ensures ∙ c.if-equal.false))

pub returns : goal.returns
unfolding meant clashes
returns c = passing-end _ _ _ c.loop-i.invariant (omega (arith, c.loop-i-test.false, c.states-count.ensures.0))
