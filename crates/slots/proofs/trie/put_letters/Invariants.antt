-- The function `put_letters` meets its contract: a turn puts a node for one letter. The measure is what is left of the text. Assumes nothing.
use Prim.Native.Nat.{◌-◌}
use Rattle.slots.proofs.GrowthLaws.{Growing}
use Rattle.slots.specs.Trie.{letters_left}
use lib.ListN.{length}
use Rattle.slots.proofs.trie.put_letters.Given as goal

abbrev pub invariant-loop-c : goal.invariant-loop-c
invariant-loop-c l = Growing l.initial.work l.first l.head l.next (letters_left l.text l.initial.c) l.work l.link l.top (letters_left l.text l.c)

abbrev pub decreases-loop-c : goal.decreases-loop-c
decreases-loop-c l = length l.text - l.c.at
