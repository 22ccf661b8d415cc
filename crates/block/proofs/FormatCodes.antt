-- The codes of a format's cells are numbers of eight bits: a state is one of the symbols, or one of the four of DNA, and a set is four bits.
-- Assumes nothing.
use Prim.Native.Nat.{ℕ, ◌%◌, ◌≤◌, ◌<◌}
use Rattle.block.proofs.FormatCells.{cell-each}
use Rattle.block.specs.Cell as C
use Rattle.block.specs.Cells.{bits, bit}
use Rattle.block.specs.Chunk.{cell}
use Rattle.block.specs.Codes.{code_of, bit_of, bits_of}
use Rattle.block.specs.Dna.{dna_cell, dna_letter}
use Rattle.block.specs.Format.{Format}
use Rattle.block.specs.Formats.{meant}
use Rattle.block.specs.declared.formats.Format as Code
use Rattle.lexer.proofs.Basics.{chosen, all_under, under_at}
use Rattle.lexer.proofs.TableLaws.{Filled}
use Rattle.lexer.specs.Base.{pick, lower}
use borrow.Author.Tests.{eqb-true}
use lib.Dec.{eqb}
use lib.ListN.{length, length-take}
use mathlib.Core.Bool.{Bool, true}
use mathlib.Core.List.{List}
use mathlib.Core.Option.{Option, none, some}
use mathlib.Core.Path.{◌≡◌, refl}
use native.Mathlib.Omega.{arith}

-- A cell that is a state has an index below a number.
abbrev pub Below : ℕ → Option C.Cell → Type 0
Below n none = Unit {0}
Below n (some (C.state i)) = i < n
Below n (some (C.uncertain s)) = Unit {0}
Below n (some (C.polymorphic s)) = Unit {0}
Below n (some C.missing) = Unit {0}
Below n (some C.gap) = Unit {0}

letter-below : (n b : ℕ) → 4 ≤ n → Below n (dna_letter b)
unfolding dna_letter
letter-below n b h =
    chosen (Below n) (eqb b 97) (λ _. omega arith)
    (λ _. chosen (Below n) (eqb b 99) (λ _. omega arith)
    (λ _. chosen (Below n) (eqb b 103) (λ _. omega arith)
    (λ _. chosen (Below n) (eqb b 116) (λ _. omega arith)
    (λ _. chosen (Below n) (eqb b 114) (λ _. tt)
    (λ _. chosen (Below n) (eqb b 121) (λ _. tt)
    (λ _. chosen (Below n) (eqb b 115) (λ _. tt)
    (λ _. chosen (Below n) (eqb b 119) (λ _. tt)
    (λ _. chosen (Below n) (eqb b 107) (λ _. tt)
    (λ _. chosen (Below n) (eqb b 109) (λ _. tt)
    (λ _. chosen (Below n) (eqb b 98) (λ _. tt)
    (λ _. chosen (Below n) (eqb b 100) (λ _. tt)
    (λ _. chosen (Below n) (eqb b 104) (λ _. tt)
    (λ _. chosen (Below n) (eqb b 118) (λ _. tt)
    (λ _. chosen (Below n) (eqb b 110) (λ _. tt) (λ _. tt)))))))))))))))

-- A cell of a format with few symbols is a state with a small index, or none.
pub cell_below : (f : Format) (b n : ℕ) → length f.symbols ≤ n → 4 ≤ n → Below n (cell f b)
unfolding dna_cell
cell_below f b n few four = cell-each f (Below n) tt (λ i h. omega arith) tt tt b (letter-below n (lower b) four)

-- The code's format has at most as many symbols as its array.
pub symbols-few : (f : Code.Format) (n : ℕ) → length f.symbols ≡ n → length (meant f).symbols ≤ n
unfolding meant
symbols-few f n h = omega (arith, length-take f.count f.symbols)

-- A set of four bits is its number again, the lowest four bits.
bits-test : ℕ → Bool
bits-test n = eqb (n % 16) (bits_of (bits n))

bits-tested : all_under bits-test 256 ≡ true
unfolding all_under bits-test bits_of bit_of bits bit pick
bits-tested = refl

pub bits_back : (n : ℕ) → n < 256 → n % 16 ≡ bits_of (bits n)
unfolding bits-test
bits_back n h = eqb-true (n % 16) (bits_of (bits n)) (under_at bits-test 256 n bits-tested h)

-- The table of codes while it is filled, byte by byte.
pub record Coding (f : Format) (table : List ℕ) (i : ℕ) : Type 0 where
  pub below : i ≤ 256
  pub whole : length table ≡ 256
  pub entries : Filled (λ b. code_of (cell f b)) 0 table i
