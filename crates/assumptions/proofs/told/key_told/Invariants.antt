-- The function `key_told` meets its contract. A turn passes one byte of the keyword and one of the word. Assumes nothing.
use Prim.Native.Nat.{◌+◌, ◌≤◌}
use Rattle.assumptions.specs.ToldWords.{told_keyword}
use lib.ListN.{length, drop}
use mathlib.Core.Path.{◌≡◌}
use Rattle.assumptions.proofs.told.key_told.Given as goal

abbrev pub invariant-loop-k : goal.invariant-loop-k
invariant-loop-k l = (l.k ≤ length l.keyword) × (told_keyword (drop l.k l.keyword) (drop (l.start + l.k) l.text) ≡ told_keyword l.keyword (drop l.start l.text))
