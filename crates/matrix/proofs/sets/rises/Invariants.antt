-- The function `rises` meets its contract: the states from here on rise from the least number on if all do. Assumes nothing.
use Rattle.lexer.specs.PlainWords.{part}
use Rattle.matrix.specs.WholeSets.{rising}
use mathlib.Core.Path.{◌≡◌}
use Rattle.matrix.proofs.sets.rises.Given as goal

abbrev pub invariant-loop-i : goal.invariant-loop-i
invariant-loop-i l = rising l.codes l.least (part l.text l.i l.end) ≡ rising l.codes 0 (part l.text l.from l.end)
