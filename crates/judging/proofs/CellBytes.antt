-- Bytes that are cells: digits below the count of symbols, `m` and `g`. Assumes nothing.
use Prim.Native.Nat.{ℕ, ◌+◌, ◌-◌, ◌/◌, ◌%◌, ◌^◌, ◌≤◌, ◌<◌}
use Rattle.block.specs.Cell.{state, missing, gap}
use Rattle.block.specs.Sound.{sound_cell}
use Rattle.judging.proofs.CellsRun.{cell-ends}
use Rattle.emit.proofs.DecimalMade.{decimal-one}
use Rattle.judging.specs.CellModes.{ends, run, step}
use Rattle.judging.specs.declared.cells.Mode.{Mode}
use Rattle.lexer.proofs.Basics.{all_under, by-test, or-false, under_at}
use Rattle.lexer.specs.Base.{pick}
use Rattle.record.specs.Spell.{spell_cell}
use borrow.Author.Tests.{eqb-true, lt-leb, lt-ltb, ltb-false, ltb-true}
use lib.Dec.{eqb, leb, ltb}
use mathlib.Core.Bool.{true, false, ◌||◌}
use mathlib.Core.Path.{◌≡◌, refl, sym, ◌∙◌}
use native.Mathlib.Omega.{arith}

-- The number whose bits tell the bytes that may be cells, by how far they are above `0`.
abbrev single_bytes : ℕ
single_bytes = 2341871806232658943

-- A bit that is set is a digit's, or that of `g` or `m`.
single-bits : (d : ℕ) → d < 64 → eqb (single_bytes / 2 ^ d % 2) 0 || leb d 9 || eqb d 55 || eqb d 61 ≡ true
unfolding all_under
single-bits d h = under_at (λ k. eqb (single_bytes / 2 ^ k % 2) 0 || leb k 9 || eqb k 55 || eqb k 61) 64 d refl h

single-other : (d : ℕ) → d < 64 → 9 < d → eqb d 55 ≡ false → eqb d 61 ≡ false → single_bytes / 2 ^ d % 2 ≡ 0
single-other d h big o p = eqb-true _ 0 (sym (or-false _) ∙ sym (or-false _) ∙ sym (or-false _) ∙ rw (lt-leb d 9 big, o, p) at (single-bits d h))

module _ (count : ℕ) where
  -- A digit below the count is a cell.
  digit-ends : (d : ℕ) → d < 10 → d < count → ends (step count Mode.Fresh (48 + d)) ≡ true
  unfolding sound_cell spell_cell run
  digit-ends d one h = rw (decimal-one d one) at (cell-ends count (state d) (lt-ltb d count h))

  -- A byte is a cell if it is as far above `0` as one that is.
  letter-ends : (b x : ℕ) → 48 ≤ b → eqb (b - 48) x ≡ true → ends (step count Mode.Fresh (48 + x)) ≡ true → ends (step count Mode.Fresh b) ≡ true
  letter-ends b x low e h =
      let value : 48 + x ≡ b = omega (arith, eqb-true (b - 48) x e) in
      rw value at h

  -- A byte whose bit is set is a cell if its index, or 0 for a letter, is below the count.
  pub byte-ends : (b v : ℕ) → 48 ≤ b → b - 48 ≤ 63 → (single_bytes / 2 ^ (b - 48) % 2 ≡ 0 → ⊥) → v ≡ pick (ltb 9 (b - 48)) 0 (b - 48) → v < count → ends (step count Mode.Fresh b) ≡ true
  unfolding sound_cell spell_cell run pick
  byte-ends b v low high bit e small =
      let d = b - 48 in
      by-test (ltb 9 d)
      (λ big.
      by-test (eqb d 55) (λ g. letter-ends b 55 low g (cell-ends count gap refl))
      (λ o. by-test (eqb d 61) (λ m. letter-ends b 61 low m (cell-ends count missing refl)) (λ p. absurd (bit (single-other d (omega arith) (ltb-true 9 d big) o p)))))
      (λ few.
      let one : d ≤ 9 = ltb-false 9 d few in
      let value : 48 + d ≡ b = omega arith in
      rw value at (digit-ends d (omega arith) (rw (e, few) at small)))
