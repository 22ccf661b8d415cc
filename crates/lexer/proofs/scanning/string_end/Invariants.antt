-- The function `string_end` meets its contract. In a turn the byte at `i` is no double quote, so the end is the same from behind it.
-- Assumes nothing.
use Rattle.lexer.proofs.EndTurns.{Stringing}
use Rattle.lexer.proofs.scanning.string_end.Given as goal

abbrev pub invariant-loop-i : goal.invariant-loop-i
invariant-loop-i l = Stringing l.text l.mark l.i
