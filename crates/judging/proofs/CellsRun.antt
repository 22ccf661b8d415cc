-- Sound cells are run through to a mode in which a cell may end. Assumes nothing.
use Prim.Native.Nat.{ℕ, ◌+◌, ◌≤◌, ◌<◌}
use Rattle.block.proofs.RisingLaws.{rising-first, rising-head, rising-rest}
use Rattle.block.specs.Cell.{Cell, state, uncertain, polymorphic, missing, gap}
use Rattle.block.specs.Sound.{rising, sound_cell, sound_cells, sound_set}
use Rattle.judging.proofs.CellModeLaws.{begun-digit, digit-byte, digit-other, grown-digit, run-append, run-then, step-blank, step-within}
use Rattle.emit.proofs.DecimalMade.{by_digits, decimal-one, decimal-snoc}
use Rattle.judging.specs.CellModes.{begun, is_digit, ends, run, step, step_fresh, step_index, step_opened, within}
use Rattle.judging.specs.declared.cells.Mode.{Mode}
use Rattle.lexer.proofs.Basics.{and_left, and_right}
use Rattle.lexer.specs.Base.{is_empty, pick}
use Rattle.record.specs.Decimal.{decimal}
use Rattle.record.specs.Spell.{dotted, spell_cell, spell_cells}
use borrow.Author.Tests.{le-leb, lt-ltb, ltb-true}
use mathlib.Core.Bool.{Bool, true, false, false≢true}
use mathlib.Core.List.{List, [], ◌∷◌}
use mathlib.Core.Path.{◌≡◌, refl, ap, ◌∙◌}
use native.Mathlib.Omega.{arith}

module _ (count : ℕ) where
  -- A decimal below the count, from a mode in which an index may begin, leads to the mode of its value.
  module _ (set : Bool) (low : ℕ) (m : Mode) (first : (d : ℕ) → d < 10 → step count m (48 + d) ≡ begun count set low (48 + d)) where
    index-run : (n : ℕ) → n < count → run count m (decimal n) ≡ Mode.Index set low n
    unfolding run
    index-run =
        by_digits (λ n. n < count → run count m (decimal n) ≡ Mode.Index set low n)
        (λ n one h. rw (decimal-one n one, first n one) (begun-digit count set low n h))
        (λ n d some one so h.
        ap (run count m) (decimal-snoc n d some one) ∙ run-append count m (decimal n) ((48 + d) ∷ [])
        ∙ rw (so (omega arith)) (grown-digit count set low n d some one h))

  -- The same where a cell begins, and where an index of a set begins.
  plain-run : (n : ℕ) → n < count → run count Mode.Fresh (decimal n) ≡ Mode.Index false 0 n
  unfolding within step_fresh pick
  plain-run = index-run false 0 Mode.Fresh (λ d one. step-within count Mode.Fresh (48 + d) (digit-other d 32 (omega arith)) ∙ rw (digit-byte d one))

  member-run : (low n : ℕ) → n < count → run count (Mode.Opened low) (decimal n) ≡ Mode.Index true low n
  unfolding within step_opened pick
  member-run low = index-run true low (Mode.Opened low) (λ d one. step-within count (Mode.Opened low) (48 + d) (digit-other d 32 (omega arith)) ∙ rw (digit-byte d one))

  -- Behind an index of a set and a dot, a larger one is to begin.
  dot-step : (low i : ℕ) → low ≤ i → i < count → step count (Mode.Index true low i) 46 ≡ Mode.Opened (i + 1)
  unfolding step within step_index is_digit pick
  dot-step low i l h = rw (le-leb low i l, lt-ltb i count h)

  -- Over a set whose indices rise from a least one on, a run comes to where a cell may end.
  set-ends : (low i : ℕ) (r : List ℕ) → low ≤ i → rising count (i ∷ r) ≡ true → ends (run count (Mode.Opened low) (dotted (i ∷ r))) ≡ true
  unfolding dotted ends
  set-ends low i [] l h = rw (member-run low i (rising-first count i [] h)) (le-leb low i l)
  set-ends low i (j ∷ r) l h =
      let small = rising-first count i (j ∷ r) h in
      let above = rising-head count i j r h in
      rw (run-then count (Mode.Opened low) (decimal i) 46 (dotted (j ∷ r)), member-run low i small, dot-step low i l small)
      (set-ends (i + 1) j r (omega arith) (rising-rest count i (j ∷ r) h))

  -- A sound set.
  some-set-ends : (s : List ℕ) → sound_set count s ≡ true → ends (run count (Mode.Opened 0) (dotted s)) ≡ true
  unfolding sound_set is_empty
  some-set-ends [] h = absurd (false≢true h)
  some-set-ends (i ∷ r) h = set-ends 0 i r (omega arith) h

  -- A sound cell.
  pub cell-ends : (c : Cell) → sound_cell count c ≡ true → ends (run count Mode.Fresh (spell_cell c)) ≡ true
  unfolding sound_cell spell_cell ends run step within step_fresh is_digit pick
  cell-ends (state i) h = rw (plain-run i (ltb-true i count h)) (le-leb 0 i (omega arith))
  cell-ends (uncertain s) h = some-set-ends s h
  cell-ends (polymorphic s) h = some-set-ends s h
  cell-ends missing h = refl
  cell-ends gap h = refl

  -- Sound cells parted by blanks.
  pub cells-end : (c : Cell) (r : List Cell) → sound_cells count (c ∷ r) ≡ true → ends (run count Mode.Fresh (spell_cells (c ∷ r))) ≡ true
  unfolding sound_cells spell_cells
  cells-end c [] h = cell-ends c (and_left _ true h)
  cells-end c (d ∷ r) h =
      let this = cell-ends c (and_left _ (sound_cells count (d ∷ r)) h) in
      rw (run-then count Mode.Fresh (spell_cell c) 32 (spell_cells (d ∷ r)), step-blank count (run count Mode.Fresh (spell_cell c)) this)
      (cells-end d r (and_right (sound_cell count c) _ h))
