use Prim.Native.Nat.{◌<◌, ◌≤◌}
use Rattle.lexer.proofs.PlaceLaws.{placing-turn, placing-end}
use Rattle.lexer.specs.Positions.{moved_to, position}
use borrow.Author.Rules.{rules}
use lib.ListN.{length}
use mathlib.Core.Logic.{◌⊎◌}
use mathlib.Core.Path.{ap}
use native.Mathlib.Omega.{arith}
use Rattle.lexer.proofs.lexer_of.moved_to.Goals as goal

pub loop-i-preserved : goal.loop-i-preserved
loop-i-preserved c =
    let short : c.loop-i.i < c.args.to = search rules in
    let inside : c.loop-i.i < length c.args.text.now = search rules in
    placing-turn c.loop-i.invariant (omega arith) (short, inside) c.symbol_at.ensures c.move_on-p.ensures

pub returns : goal.returns
unfolding moved_to
returns c =
    let over : (c.args.to ≤ c.loop-i.i) ⊎ (length c.args.text.now ≤ c.loop-i.i) = search rules in
    ap (position _) (placing-end c.loop-i.invariant over)
