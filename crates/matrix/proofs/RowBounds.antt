-- What one word of a sequential matrix can do at most: to the cells of a row, and to where its name stands. Assumes nothing.
use Rattle.std.specs.Prelude.{Some, None}
use Prim.Native.Nat.{ℕ, ◌+◌, ◌≤◌, ◌<◌}
use Rattle.block.specs.Names.{known}
use Rattle.block.specs.Outcome.{Outcome, done, refused}
use Rattle.lexer.proofs.Basics.{chosen}
use Rattle.lexer.specs.Stored.{word_of}
use Rattle.lexer.specs.Words.{label}
use Rattle.matrix.proofs.SymbolCounts.{chunk-size}
use Rattle.matrix.specs.RowShape.{so_far, chunk_shape}
use Rattle.matrix.specs.SequentialShape.{cells_of_row, named_shape, begun_shape, grown_shape, turn_shape}
use Rattle.matrix.specs.declared.matrix.Chunk.{Chunk}
use Rattle.matrix.specs.declared.matrix.Turned.{Turned}
use Rattle.std.specs.Prelude as Std
use lib.Dec.{eqb, ltb}
use lib.ListN.{length}
use mathlib.Core.List.{List}
use mathlib.Core.Option.{Option, none, some}
use mathlib.Core.Path.{◌≡◌, refl}
use native.Mathlib.Omega.{arith}

-- The name of an open row stands below an index.
abbrev pub Named : ℕ → Std.Option (ℕ × Chunk) → Type 0
Named to None = Unit {0}
Named to (Some (s, c)) = s < to

-- What a turn can do at most: a row has few cells more, and the name of a row that is open or full stands below the end.
abbrev pub Bounded : ℕ → ℕ → ℕ → Outcome Turned → Type 0
Bounded size cells to (done (Turned.On line)) = (cells_of_row line ≤ cells + size + 1) × Named to line
Bounded size cells to (done (Turned.Full s)) = s < to
Bounded size cells to (refused m j) = Unit {0}

module _ (text work codes : List ℕ) (taxa n to : ℕ) (names : List (List ℕ)) (i : ℕ) (h : i < to) where
  grown-bounded : (cells s : ℕ) → s < to → (o : Outcome Chunk) → ((row : Chunk) → o ≡ done row → so_far row ≤ cells + length text + 1) → Bounded (length text) cells to (grown_shape n s i o)
  unfolding grown_shape cells_of_row
  grown-bounded cells s b (refused m j) size = tt
  grown-bounded cells s b (done (Chunk.Within k kind mark empty)) size = (size (Chunk.Within k kind mark empty) refl, b)
  grown-bounded cells s b (done (Chunk.Plain k)) size =
      chosen (Bounded (length text) cells to) (ltb n k) (λ _. tt) (λ _. chosen (Bounded (length text) cells to) (eqb k n) (λ _. b) (λ _. (size (Chunk.Plain k) refl, b)))

  named-bounded : (o : Option (List ℕ)) → Bounded (length text) 0 to (named_shape names i o)
  unfolding named_shape cells_of_row so_far
  named-bounded none = tt
  named-bounded (some m) = chosen (Bounded (length text) 0 to) (known m names) (λ _. tt) (λ _. (omega arith, h))

  pub turn-bounded : (line : Std.Option (ℕ × Chunk)) → Named to line → Bounded (length text) (cells_of_row line) to (turn_shape codes taxa n names line (word_of text work i))
  unfolding turn_shape begun_shape cells_of_row word_of
  turn-bounded None b = chosen (Bounded (length text) 0 to) (eqb (length names) taxa) (λ _. tt) (λ _. named-bounded (label (word_of text work i)))
  turn-bounded (Some (s, c)) b = grown-bounded (so_far c) s b (chunk_shape codes c (word_of text work i)) (chunk-size text work codes i c)
