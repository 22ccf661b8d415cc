-- The function `branch_of` meets its contract: a turn passes a node of another letter. The measure is how far the link is from the place of the next
-- node. Assumes nothing.
use Prim.Native.Nat.{ℕ, ◌-◌}
use Rattle.slots.specs.Trie.{Leads}
use mathlib.Core.List.{List, ◌∷◌}
use Rattle.slots.proofs.trie.branch_of.Given as goal

abbrev pub invariant-loop-from : goal.invariant-loop-from
invariant-loop-from l = (head : ℕ) (r : List ℕ) → Leads head l.work l.top l.from (l.code ∷ r) l.link (l.code ∷ r)

abbrev pub decreases-loop-from : goal.decreases-loop-from
decreases-loop-from l = l.top - l.link
