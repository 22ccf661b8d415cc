-- The function `known_name` meets its contract: a turn passes one name that is another. Assumes nothing.
use Rattle.block.proofs.NamesWalk.{Searching}
use Rattle.block.specs.NamesHeld.{name_of}
use Rattle.lexer.specs.Stored.{word_of}
use Rattle.block.proofs.names.known_name.Given as goal

abbrev pub invariant-loop-j : goal.invariant-loop-j
invariant-loop-j l = Searching l.text l.work (name_of (word_of l.text l.work l.i)) l.from l.to l.j
