-- The codes of a format's symbols: one number for each byte, by which the code knows a cell.
use Rattle.std.specs.Prelude.{ℕ, ◌+◌, ◌<◌, eqb, get_or, List, [], ◌∷◌, ◌≡◌}
use Rattle.block.specs.Cell.{Cell, state, uncertain, polymorphic, missing, gap}
use Rattle.block.specs.Chunk.{cell}
use Rattle.block.specs.Format.{Format}
use Rattle.lexer.specs.Base.{pick}
use Rattle.std.proofs.Math.Option.{Option, none, some}

-- A set of states below four as bits.
unfoldable pub bit_of : ℕ → ℕ
bit_of i = pick (eqb i 0) 1 (pick (eqb i 1) 2 (pick (eqb i 2) 4 8))

unfoldable pub bits_of : List ℕ → ℕ
bits_of [] = 0
bits_of (i ∷ r) = bit_of i + bits_of r

-- A state is its index, a set of DNA 96 and its bits, missing 126, a gap 127; 255 is no cell.
unfoldable pub code_of : Option Cell → ℕ
code_of none = 255
code_of (some (state i)) = i
code_of (some (uncertain s)) = 96 + bits_of s
code_of (some (polymorphic s)) = 255
code_of (some missing) = 126
code_of (some gap) = 127

-- These are the codes of a format: one for each byte.
pub record Coded (f : Format) (codes : List ℕ) : Type 0 where
  pub code : (b : ℕ) → b < 256 → get_or codes b 0 ≡ code_of (cell f b)
