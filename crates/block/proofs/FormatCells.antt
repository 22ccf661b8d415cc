-- The cell of one symbol: given where the code has one; and what holds of missing, the gap, a state and a code of DNA holds of it. Assumes nothing.
use Prim.Native.Nat.{ℕ, suc, ◌+◌, ◌≤◌, ◌<◌}
use Rattle.block.specs.Cell as C
use Rattle.block.specs.Cells.{cell_of}
use Rattle.block.specs.declared.data.Cell.{Cell}
use Rattle.std.specs.Prelude.{is_some, Some, None}
use Rattle.std.specs.Prelude as Std
use Rattle.block.specs.Chunk.{find_symbol, state_of, state_cell, state_or_code, gap_or, cell}
use Rattle.block.specs.Dna.{dna_cell}
use Rattle.block.specs.Format.{Format, equal}
use Rattle.block.specs.declared.data.DataType.{DataType}
use Rattle.lexer.proofs.Basics.{chosen}
use Rattle.lexer.specs.Base.{given}
use lib.ListN.{length}
use mathlib.Core.List.{List, [], ◌∷◌}
use mathlib.Core.Option.{Option, none, some}
use mathlib.Core.Path.{◌≡◌, refl}
use native.Mathlib.Omega.{arith}

-- A cell of the code is given where it means one.
pub is_cell : (o : Std.Option Cell) → given (cell_of o) ≡ is_some o
unfolding given cell_of
is_cell (Some (Cell.State i)) = refl
is_cell (Some (Cell.Uncertain n)) = refl
is_cell (Some Cell.Missing) = refl
is_cell (Some Cell.Gap) = refl
is_cell None = refl

-- What holds of no cell, of the states of a format, of missing and of the gap holds of the cell of each byte of whose DNA code it holds.
module _ (f : Format) (P : Option C.Cell → Type 0) (no : P none) (states : (i : ℕ) → i < length f.symbols → P (some (C.state i))) (absent : P (some C.missing)) (gaps : P (some C.gap)) where
  found-each : (b k : ℕ) (l : List ℕ) → k + length l ≤ length f.symbols → P (state_cell (find_symbol f b k l))
  unfolding find_symbol state_cell
  found-each b k [] h = no
  found-each b k (s ∷ r) h = chosen (λ o. P (state_cell o)) (equal f s b) (λ _. states k (omega arith)) (λ _. found-each b (suc k) r (omega arith))

  module _ (b : ℕ) (dna : P (dna_cell b)) where
    code-each : (t : DataType) → P (state_or_code t f b)
    unfolding state_or_code state_of
    code-each DataType.Standard = found-each b 0 f.symbols (omega arith)
    code-each DataType.Dna = dna

    gap-each : (g : Option ℕ) → P (gap_or f g b)
    unfolding gap_or
    gap-each none = code-each f.data_type
    gap-each (some g) = chosen P (equal f g b) (λ _. gaps) (λ _. code-each f.data_type)

    pub cell-each : P (cell f b)
    unfolding cell
    cell-each = chosen P (equal f f.missing b) (λ _. absent) (λ _. gap-each f.gap)
