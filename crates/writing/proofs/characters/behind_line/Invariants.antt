-- The function `behind_line` meets its contract. The invariant: the place behind the line from here on is that behind the line from its first byte on.
-- Assumes nothing.
use Prim.Native.Nat.{ℕ}
use Rattle.writing.specs.CharacterLines.{LineBehind}
use Rattle.writing.proofs.characters.behind_line.Given as goal

abbrev pub invariant-loop-i : goal.invariant-loop-i
invariant-loop-i l = (r : ℕ) → LineBehind l.source l.i r → LineBehind l.source l.at r
