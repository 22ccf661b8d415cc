-- The function `name_alike` meets its contract: a turn passes one byte of the name. Assumes nothing.
use Rattle.naming.proofs.EscapeLike.{Naming}
use Rattle.naming.proofs.lines.name_alike.Given as goal

abbrev pub invariant-loop-b : goal.invariant-loop-b
invariant-loop-b l = Naming l.source l.at l.name l.i l.b-index
