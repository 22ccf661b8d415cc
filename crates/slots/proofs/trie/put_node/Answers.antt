-- The function `put_node` meets its contract. Assumes nothing.
use Rattle.slots.specs.Trie.{with_node}
use lib.ListN.{length-set}
use mathlib.Core.Path.{refl}
use native.Mathlib.Omega.{arith}
use Rattle.slots.proofs.trie.put_node.Goals as goal

pub bounds-work-top : goal.bounds-work-top
bounds-work-top c = simp length-set (omega arith)

pub bounds-work-top-2 : goal.bounds-work-top-2
bounds-work-top-2 c = simp length-set (omega arith)

pub bounds-work-top-3 : goal.bounds-work-top-3
bounds-work-top-3 c = simp length-set (omega arith)

pub returns : goal.returns
unfolding with_node
returns c = refl
