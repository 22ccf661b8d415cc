-- The cell of a code, by its range; and whether it has one. Assumes nothing.
use Prim.Native.Nat.{ℕ, ◌-◌, ◌≤◌, ◌<◌}
use Rattle.block.specs.Cell.{Cell, state, uncertain, missing, gap}
use Rattle.lexer.proofs.Basics.{by-test, chosen}
use Rattle.lexer.specs.Base.{given, pick}
use Rattle.reading.specs.CodedCells.{decoded, marks, members}
use borrow.Author.Tests.{eqb-false, eqb-true, le-ltb, lt-ltb, ltb-false, ltb-true, ne_eqb}
use lib.Dec.{eqb, ltb}
use mathlib.Core.Bool.{true, false}
use mathlib.Core.List.{List}
use mathlib.Core.Option.{Option, none, some}
use mathlib.Core.Path.{◌≡◌, sym, ap}
use native.Mathlib.Omega.{arith}

module _ (code : ℕ) where
  pub decoded-state : code < 96 → decoded code ≡ some (state code)
  unfolding decoded pick
  decoded-state h = rw (lt-ltb code 96 h)

  pub decoded-set : 96 ≤ code → code < 112 → decoded code ≡ some (uncertain (members 0 (marks (code - 96))))
  unfolding decoded pick
  decoded-set h k = rw (le-ltb code 96 h, lt-ltb code 112 k)

  decoded-missing : code ≡ 126 → decoded code ≡ some missing
  unfolding decoded pick
  decoded-missing e = rw e

  decoded-gap : code ≡ 127 → decoded code ≡ some gap
  unfolding decoded pick
  decoded-gap e = rw e

  pub decoded-none : 112 ≤ code → (code ≡ 126 → ⊥) → (code ≡ 127 → ⊥) → decoded code ≡ none
  unfolding decoded pick
  decoded-none h m g = rw (le-ltb code 96 (omega arith), le-ltb code 112 h, ne_eqb code 126 m, ne_eqb code 127 g)

  -- From 96 on a code has a set, missing, a gap, or none.
  pub decoded-other : (P : Option Cell → Type 0) → 96 ≤ code → ((s : List ℕ) → P (some (uncertain s))) → P (some missing) → P (some gap) → P none → P (decoded code)
  unfolding decoded
  decoded-other P h s m g n =
      rw (le-ltb code 96 h) (unfold pick in chosen P (ltb code 112) (λ _. s _) (λ _. chosen P (eqb code 126) (λ _. m) (λ _. chosen P (eqb code 127) (λ _. g) (λ _. n))))

  -- Has it a cell?
  cell-low : code < 112 → given (decoded code) ≡ true
  unfolding given
  cell-low h = by-test (ltb code 96) (λ t. ap given (decoded-state (ltb-true code 96 t))) (λ f. ap given (decoded-set (ltb-false code 96 f) h))

  pub cell-some : (112 ≤ code → (code ≡ 126 → ⊥) → code ≡ 127) → true ≡ given (decoded code)
  unfolding given
  cell-some h =
      by-test (ltb code 112) (λ t. sym (cell-low (ltb-true code 112 t)))
      (λ f. by-test (eqb code 126) (λ t. sym (ap given (decoded-missing (eqb-true code 126 t))))
      (λ g. sym (ap given (decoded-gap (h (ltb-false code 112 f) (eqb-false code 126 g))))))

  pub cell-none : 112 ≤ code → (code ≡ 126 → ⊥) → (code ≡ 127 → ⊥) → false ≡ given (decoded code)
  unfolding given
  cell-none h m g = sym (ap given (decoded-none h m g))
