-- The codes of a format give back its cells: a state is below 96, a set of DNA is told by its bits, and no symbol is a polymorphic cell. So the cells
-- of a word by the codes are those that the format gives it. Assumes nothing.
use Prim.Native.Nat.{ℕ, zero, suc, ◌+◌, ◌-◌, ◌≤◌, ◌<◌}
use Rattle.block.proofs.FormatCells.{cell-each}
use Rattle.block.specs.Cell.{Cell, state, uncertain, polymorphic, missing, gap}
use Rattle.block.specs.Chunk.{cell}
use Rattle.block.specs.Codes.{Coded, bit_of, bits_of, code_of}
use Rattle.block.specs.Dna.{dna_cell, dna_letter}
use Rattle.block.specs.Format.{Format}
use Rattle.lexer.proofs.Basics.{all_under, and_left, and_right, same_true, under_at}
use Rattle.lexer.proofs.SmallBytes.{Small}
use Rattle.lexer.specs.Base.{lower, pick, same}
use Rattle.lexer.specs.Words.{Numbered}
use Rattle.matrix.specs.Taken.{cells_taken, word_taken}
use Rattle.reading.proofs.DecodedLaws.{decoded-set, decoded-state}
use Rattle.reading.specs.CodedCells.{cells_coded, decoded, has_cells, marks, members, word_coded}
use borrow.Author.Tests.{lt-ltb, ltb-true}
use lib.Dec.{ltb}
use lib.ListN.{length}
use mathlib.Core.Bool.{Bool, true, false, ◌&&◌, false≢true}
use mathlib.Core.List.{List, [], ◌∷◌}
use mathlib.Core.Option.{Option, none, some}
use mathlib.Core.Path.{◌≡◌, refl, ◌∙◌}
use native.Mathlib.Omega.{arith}

-- A cell that its code gives back.
told : Option Cell → Bool
told none = true
told (some (state i)) = ltb i 96
told (some (uncertain s)) = ltb (bits_of s) 16 && same (members 0 (marks (bits_of s))) s
told (some (polymorphic s)) = false
told (some missing) = true
told (some gap) = true

decoded-told : (o : Option Cell) → told o ≡ true → decoded (code_of o) ≡ o
unfolding told code_of
decoded-told none h = unfold decoded pick in refl
decoded-told (some (state i)) h = decoded-state i (ltb-true i 96 h)
decoded-told (some (uncertain s)) h =
    let low = ltb-true (bits_of s) 16 (and_left (ltb (bits_of s) 16) (same (members 0 (marks (bits_of s))) s) h) in
    let back : 96 + bits_of s - 96 ≡ bits_of s = omega arith in
    let all = same_true (members 0 (marks (bits_of s))) s (and_right (ltb (bits_of s) 16) (same (members 0 (marks (bits_of s))) s) h) in
    decoded-set (96 + bits_of s) (omega arith) (omega arith) ∙ rw (back, all)
decoded-told (some (polymorphic s)) h = absurd (false≢true h)
decoded-told (some missing) h = unfold decoded pick in refl
decoded-told (some gap) h = unfold decoded pick in refl

abbrev Told : Option Cell → Type 0
Told o = told o ≡ true

module _ (f : Format) (few : length f.symbols ≤ 74) where
  cell-told : (b : ℕ) → b < 256 → Told (cell f b)
  unfolding all_under dna_cell dna_letter lower pick told bits_of bit_of members marks same
  cell-told b h = cell-each f Told refl (λ i l. lt-ltb i 96 (omega arith)) refl refl b (under_at (λ b. told (dna_cell b)) 256 b refl h)

  module _ (codes : List ℕ) (k : Coded f codes) where
    cells-read : (bytes : List ℕ) → Small bytes → cells_coded codes bytes ≡ cells_taken f bytes
    unfolding cells_coded cells_taken
    cells-read [] s = refl
    cells-read (b ∷ r) s = rw (k.code b (s zero), decoded-told (cell f b) (cell-told b (s zero)), cells-read r (λ i. s (suc i)))

    pub word_read : (w : Numbered) → Small w.token.text → word_coded codes w ≡ word_taken f w
    unfolding word_coded word_taken has_cells
    word_read w s = rw (cells-read w.token.text s)
