-- The blanks and the byte `g` in a row count its cells and tell its gaps. Assumes nothing.
use Prim.Native.Nat.{ℕ, ◌+◌, ◌≤◌}
use Rattle.block.specs.Cell.{Cell, state, uncertain, polymorphic, missing, gap}
use Rattle.block.specs.Sound.{is_gap, gap_among}
use Rattle.judging.specs.CellModes.{blanks}
use Rattle.lexer.proofs.Basics.{among-append, by-test, eqb-sym, or-false, or_left, or_right}
use Rattle.lexer.specs.Base.{among, pick}
use Rattle.record.proofs.CellLaws.{cell_free, decimal-free, dotted-free}
use Rattle.record.proofs.DecimalLaws.{is_digit}
use Rattle.record.specs.Spell.{spell_cell, spell_cells}
use lib.Dec.{eqb}
use lib.ListN.{length}
use mathlib.Core.Bool.{false}
use mathlib.Core.List.{List, [], ◌∷◌, ◌++◌}
use mathlib.Core.Path.{◌≡◌, refl, sym, ◌∙◌}
use native.Mathlib.Omega.{arith}

-- Blanks of two texts.
pub blanks-append : (a b : List ℕ) → blanks (a ++ b) ≡ blanks a + blanks b
unfolding blanks pick
blanks-append [] b = omega arith
blanks-append (x ∷ a) b =
    let so = blanks-append a b in
    by-test (eqb x 32) (λ t. rw t (omega arith)) (λ f. rw f (omega arith))

-- A text without blanks has none.
blanks-none : (t : List ℕ) → among 32 t ≡ false → blanks t ≡ 0
unfolding blanks among pick
blanks-none [] h = refl
blanks-none (b ∷ t) h = rw (eqb-sym b 32, or_left (eqb 32 b) (among 32 t) h) (blanks-none t (or_right (eqb 32 b) (among 32 t) h))

-- There are no more blanks than bytes.
pub blanks-few : (t : List ℕ) → blanks t ≤ length t
unfolding blanks pick
blanks-few [] = omega arith
blanks-few (b ∷ t) =
    let so = blanks-few t in
    by-test (eqb b 32) (λ e. rw e (omega arith)) (λ f. rw f (omega arith))

-- A blank is one.
one-blank : (t : List ℕ) → blanks (32 ∷ t) ≡ blanks t + 1
unfolding blanks pick
one-blank t = refl

-- Of the cells of a row all but the first stand behind a blank.
pub cells-blanks : (c : Cell) (r : List Cell) → blanks (spell_cells (c ∷ r)) ≡ length r
unfolding spell_cells
cells-blanks c [] = blanks-none (spell_cell c) (cell_free 32 (omega arith) c)
cells-blanks c (d ∷ r) =
    let rest = spell_cells (d ∷ r) in
    blanks-append (spell_cell c) (32 ∷ rest)
    ∙ omega (arith, blanks-none (spell_cell c) (cell_free 32 (omega arith) c), one-blank rest, cells-blanks d r)

-- The byte `g` is a gap's alone.
cell-gap : (c : Cell) → among 103 (spell_cell c) ≡ is_gap c
unfolding spell_cell among is_gap is_digit
cell-gap (state i) = decimal-free 103 refl i
cell-gap (uncertain s) = dotted-free 103 refl refl s
cell-gap (polymorphic s) = dotted-free 103 refl refl s
cell-gap missing = refl
cell-gap gap = refl

-- The byte `g` is in a row exactly if a gap is.
pub cells-gap : (cells : List Cell) → among 103 (spell_cells cells) ≡ gap_among cells
unfolding spell_cells among gap_among
cells-gap [] = refl
cells-gap (c ∷ []) = cell-gap c ∙ sym (or-false (is_gap c))
cells-gap (c ∷ d ∷ r) = among-append 103 (spell_cell c) (32 ∷ spell_cells (d ∷ r)) ∙ rw (cell-gap c, cells-gap (d ∷ r))
