use Prim.Native.Nat.{◌<◌}
use Rattle.block.proofs.SymbolWalk.{seeking-start, seeking-turn, seeking-found, seeking-end, symbol-meant}
use Rattle.lexer.specs.Base.{option_of}
use Rattle.block.specs.Formats.{meant}
use lib.ListN.{length}
use mathlib.Core.Path.{sym, ◌∙◌}
use native.Mathlib.Omega.{arith}
use Rattle.block.proofs.formats.Format.state.Goals as goal

pub loop-i-init : goal.loop-i-init
loop-i-init c = seeking-start _ _

pub returns-then-equal : goal.returns-then-equal
unfolding option_of
returns-then-equal c =
    let below : c.loop-i.i < length (meant c.args.self).symbols = omega (arith, c.loop-i-test.true, c.states-count.ensures.0) in
    seeking-found _ _ _ c.loop-i.invariant below (rw (symbol-meant _ _ below) (sym c.equal.ensures ∙ c.if-equal.true))

pub loop-i-preserved : goal.loop-i-preserved
loop-i-preserved c =
    let below : c.loop-i.i < length (meant c.args.self).symbols = omega (arith, c.loop-i-test.true, c.states-count.ensures.0) in
    seeking-turn _ _ _ c.loop-i.invariant below (rw (symbol-meant _ _ below) (sym c.equal.ensures ∙ c.if-equal.false))

pub returns : goal.returns
unfolding option_of
returns c = seeking-end _ _ _ c.loop-i.invariant (omega (arith, c.loop-i-test.false, c.states-count.ensures.0))
