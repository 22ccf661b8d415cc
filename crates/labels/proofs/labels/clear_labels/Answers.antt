use Prim.Native.Nat.{◌*◌}
use Rattle.labels.proofs.LabelSlotLaws.{held-filled}
use Rattle.std.proofs.Common.{rules}
use lib.ListN.{replicate}
use mathlib.Core.Path.{◌≡◌}
use Rattle.labels.proofs.labels.clear_labels.Goals as goal

pub returns-clause-clear : goal.returns-clause-clear
returns-clause-clear c =
    let filled : c.fill.new.self ≡ replicate (2 * c.args.room.characters) 0 = search rules in
    λ text. held-filled text c.args.work.now c.fill.new.self _ c.args.room.at c.args.room.characters c.requires filled
