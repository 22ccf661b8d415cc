-- The function `ascii_run` meets its contract. The invariant: what is judged from here on is judged from the first byte on. The measure is what is left
-- of the bytes. Assumes nothing.
use Prim.Native.Nat.{◌-◌, ◌≤◌}
use Rattle.judging.proofs.NameJudged.{Walking}
use Rattle.judging.specs.NameRest.{name_rest}
use Rattle.judging.specs.declared.names.Naming.{Naming}
use lib.ListN.{length}
use mathlib.Core.Bool.{false}
use mathlib.Core.Path.{◌≡◌}
use Rattle.judging.proofs.names.ascii_run.Given as goal

abbrev pub invariant-loop-at : goal.invariant-loop-at
invariant-loop-at l = (l.from ≤ l.at) × ((s : Naming) → s.more ≡ 0 → s.blank ≡ false → Walking l.source l.from (name_rest s) s l.at)

abbrev pub decreases-loop-at : goal.decreases-loop-at
decreases-loop-at l = length l.source - l.at
