-- The function `clear` meets its contract: the marks up to the end are filled with 0. Assumes nothing.
use Rattle.reading.proofs.MarkLaws.{cleared-filled}
use Rattle.std.proofs.Common.{rules}
use lib.ListN.{replicate}
use mathlib.Core.Path.{◌≡◌}
use native.Mathlib.Omega.{arith}
use Rattle.reading.proofs.sets.clear.Goals as goal

pub returns : goal.returns
returns c =
    let filled : c.fill.new.self ≡ replicate c.args.top 0 = search rules in
    cleared-filled c.args.set.now c.fill.new.self c.args.top (omega (arith, c.requires)) filled
