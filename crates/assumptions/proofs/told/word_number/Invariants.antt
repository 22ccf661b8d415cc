-- The function `word_number` meets its contract. A turn passes one digit. Assumes nothing.
use Rattle.assumptions.specs.ToldWords.{told_number}
use lib.ListN.{drop}
use mathlib.Core.Path.{◌≡◌}
use Rattle.assumptions.proofs.told.word_number.Given as goal

abbrev pub invariant-loop-i : goal.invariant-loop-i
invariant-loop-i l = told_number l.n (drop l.i l.text) ≡ told_number 0 (drop l.start l.text)
