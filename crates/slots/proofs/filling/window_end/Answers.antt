-- The function `window_end` meets its contract. Assumes nothing.
use Prim.Native.Nat.{◌-◌}
use Rattle.lexer.specs.Base.{pick}
use Rattle.slots.specs.Entering.{window_end}
use borrow.Author.Tests.{le-ltb, lt-ltb}
use native.Mathlib.Omega.{arith}
use Rattle.slots.proofs.filling.window_end.Goals as goal

pub returns-then-saturating_sub-le16 : goal.returns-then-saturating_sub-le16
unfolding window_end pick
returns-then-saturating_sub-le16 c = rw (le-ltb 16 (c.args.table.end - c.args.from) (omega (arith, c.saturating_sub.ensures)))

pub returns : goal.returns
unfolding window_end pick
returns c = rw (lt-ltb 16 (c.args.table.end - c.args.from) (omega (arith, c.saturating_sub.ensures)))
