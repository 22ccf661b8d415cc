-- The function `word_stop_by` meets its contract. The invariant: from here the plain bytes end where they do from the first. Assumes nothing.
use Rattle.lexer.specs.ByteBlocks.{plain_end}
use lib.ListN.{drop}
use mathlib.Core.Path.{◌≡◌}
use Rattle.lexer.proofs.scanning.word_stop_by.Given as goal

abbrev pub invariant-loop-i : goal.invariant-loop-i
invariant-loop-i l = plain_end l.i (drop l.i l.text) ≡ plain_end l.start (drop l.start l.text)
