-- The function `type_range` meets its contract. A turn types one character and goes on to the next of the range, unless that is past its last. The
-- measure is what is left up to the last. Assumes nothing.
use Prim.Native.Nat.{◌+◌, ◌-◌, min}
use Rattle.assumptions.proofs.RangeTyped.{Striding}
use Rattle.assumptions.specs.TypesHeld.{type_number}
use Rattle.block.specs.declared.kinds.Range.{Range}
use Rattle.block.specs.declared.model.CharacterOrdering.{CharacterOrdering}
use lib.ListN.{length}
use mathlib.Core.Path.{◌≡◌}
use Rattle.assumptions.proofs.types.type_range.Given as goal

abbrev pub invariant-loop-k : goal.invariant-loop-k
invariant-loop-k l = (length l.work ≡ length l.initial.work)
    × ((o : CharacterOrdering) (r : Range) → l.value ≡ type_number o → l.last ≡ min r.last l.held.count → l.stride ≡ r.stride → l.initial.k ≡ r.first → Striding o r l.held.at l.held.count l.initial.work l.work l.k)

abbrev pub decreases-loop-k : goal.decreases-loop-k
decreases-loop-k l = l.last + 1 - l.k
