-- The function `first_free` meets its contract. Assumes nothing.
use Rattle.record.specs.Form.{first_free}
use lib.ListN.{drop}
use mathlib.Core.List.{◌∷◌}
use mathlib.Core.Path.{◌≡◌}
use Rattle.writing.proofs.signs.first_free.Given as goal

abbrev pub invariant-loop-b : goal.invariant-loop-b
invariant-loop-b l = first_free (l.other ∷ l.symbols) (drop l.b-index l.bytes) ≡ first_free (l.other ∷ l.symbols) l.bytes
