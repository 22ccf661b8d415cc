use Prim.Native.Nat.{◌<◌}
use Rattle.block.proofs.SymbolsDiffer.{passing-turn, passing-over, passing-end, states-taken, valid-more, invalid-over}
use Rattle.block.specs.Format.{all_valid}
use lib.ListN.{length, take}
use mathlib.Core.Path.{sym, ap, ◌∙◌}
use native.Mathlib.Omega.{arith}
use Rattle.block.proofs.symbols.all_valid.Goals as goal

pub returns-then-not-valid_symbol : goal.returns-then-not-valid_symbol
returns-then-not-valid_symbol c =
    let f = c.args.f in
    let taken = states-taken f c.states-count.result c.states-count.ensures.0 in
    let below : c.loop-i.i < length (take c.states-count.result f.symbols) = omega (arith, c.loop-i-test.true, ap length taken, c.states-count.ensures.0) in
    passing-over _ _ _ c.loop-i.invariant below _ (invalid-over _ _ (sym c.valid_symbol.ensures ∙ c.if-not-valid_symbol.true)) ∙ ap all_valid taken

pub loop-i-preserved : goal.loop-i-preserved
loop-i-preserved c =
    let f = c.args.f in
    let taken = states-taken f c.states-count.result c.states-count.ensures.0 in
    let below : c.loop-i.i < length (take c.states-count.result f.symbols) = omega (arith, c.loop-i-test.true, ap length taken, c.states-count.ensures.0) in
    passing-turn _ _ _ c.loop-i.invariant below (valid-more _ _ (sym c.valid_symbol.ensures ∙ c.if-not-valid_symbol.false))

pub returns : goal.returns
unfolding all_valid
returns c =
    let states = c.states-count in
    let taken = states-taken c.args.f states.result states.ensures.0 in
    passing-end _ _ _ c.loop-i.invariant (omega (arith, c.loop-i-test.false, ap length taken, states.ensures.0)) ∙ ap all_valid taken
