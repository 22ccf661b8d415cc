use Prim.Native.Nat.{◌<◌}
use Rattle.block.proofs.SymbolsDiffer.{passing-start, passing-turn, passing-over, passing-end, differ-more, differ-over}
use Rattle.block.specs.Format.{all_differ}
use Rattle.block.specs.Formats.{meant}
use lib.ListN.{length, take}
use mathlib.Core.Path.{sym, ◌∙◌}
use native.Mathlib.Omega.{arith}
use Rattle.block.proofs.symbols.states_differ.Goals as goal

pub loop-i-init : goal.loop-i-init
unfolding meant
loop-i-init c = passing-start _ _ _ 0

pub returns-then-clashes : goal.returns-then-clashes
unfolding meant
returns-then-clashes c =
    let f = c.args.f in
    let below : c.loop-i.i < length (take f.count f.symbols) = omega (arith, c.loop-i-test.true, c.states-count.ensures.0) in
    passing-over _ _ _ c.loop-i.invariant below _ (differ-over _ _ _ (sym c.clashes.ensures ∙ c.if-clashes.true))

pub loop-i-preserved : goal.loop-i-preserved
unfolding meant
loop-i-preserved c =
    let f = c.args.f in
    let below : c.loop-i.i < length (take f.count f.symbols) = omega (arith, c.loop-i-test.true, c.states-count.ensures.0) in
    passing-turn _ _ _ c.loop-i.invariant below (differ-more _ _ _ (sym c.clashes.ensures ∙ c.if-clashes.false))

pub returns : goal.returns
unfolding meant all_differ
returns c = passing-end _ _ _ c.loop-i.invariant (omega (arith, c.loop-i-test.false, c.states-count.ensures.0))
