-- What the code's cells of one symbol mean.
use Rattle.std.specs.Prelude.{ℕ, ◌/◌, ◌%◌, eqb, List, [], ◌∷◌, Some, None}
use Rattle.block.specs.Cell as C
use Rattle.block.specs.declared.data.Cell.{Cell}
use Rattle.lexer.specs.Base.{pick}
use Rattle.std.proofs.Math.Option.{Option, none, some}
use Rattle.std.specs.Prelude as Std

-- A bit's index in front of others, if the number is odd.
unfoldable pub bit : ℕ → ℕ → List ℕ → List ℕ
bit i n more = pick (eqb (n % 2) 1) (i ∷ more) more

-- The states of four bits.
unfoldable pub bits : ℕ → List ℕ
bits n = bit 0 n (bit 1 (n / 2) (bit 2 (n / 4) (bit 3 (n / 8) [])))

unfoldable pub cell_of : Std.Option Cell → Option C.Cell
cell_of (Some (Cell.State i)) = some (C.state i)
cell_of (Some (Cell.Uncertain n)) = some (C.uncertain (bits n))
cell_of (Some Cell.Missing) = some C.missing
cell_of (Some Cell.Gap) = some C.gap
cell_of None = none
