-- The function `list_walk` meets its contract. A turn passes one word. Assumes nothing.
use Rattle.assumptions.proofs.ListWalks.{Listing}
use Rattle.assumptions.proofs.characters.list_walk.Given as goal

abbrev pub invariant-loop-j : goal.invariant-loop-j
invariant-loop-j l = Listing l.text l.to l.held.at l.held.count l.ordering l.word l.from l.initial.work l.work l.list.item l.list.twice l.j
