-- The function `name_reach` meets its contract: a turn passes one letter. The measure is what is left of the text. Assumes nothing.
use Prim.Native.Nat.{◌+◌, ◌-◌}
use Rattle.slots.specs.Trie.{Leads, letters_left}
use lib.ListN.{length}
use Rattle.slots.proofs.trie.name_reach.Given as goal

abbrev pub invariant-loop-n : goal.invariant-loop-n
invariant-loop-n l = Leads l.head l.work l.top (l.head + 1) (letters_left l.text l.initial.c) l.link (letters_left l.text l.c)

abbrev pub decreases-loop-n : goal.decreases-loop-n
decreases-loop-n l = length l.text - l.c.at
