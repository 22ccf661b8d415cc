-- How many rows lines make, and which line is the first of a row, by the layout and the counts. Assumes nothing.
use Prim.Native.Nat.{ℕ, ◌+◌, ◌-◌, ◌%◌, ◌≤◌, ◌<◌}
use Rattle.lexer.proofs.Basics.{by-test}
use Rattle.lexer.specs.Base.{pick}
use Rattle.reading.specs.RowLines.{first_line, row_count}
use borrow.Author.Tests.{le-ltb, lt-ltb}
use lib.Dec.{ltb}
use mathlib.Core.Bool.{Bool, true, false}
use mathlib.Core.Path.{◌≡◌}
use native.Mathlib.Omega.{arith}

module _ (interleave : Bool) (lines taxa : ℕ) where
  pub count-sequential : interleave ≡ false → lines ≡ row_count interleave lines taxa
  unfolding row_count pick
  count-sequential e = rw e

  pub count-few : interleave ≡ true → lines < taxa → 0 ≡ row_count interleave lines taxa
  unfolding row_count pick
  count-few e h = rw (e, lt-ltb lines taxa h)

  pub count_none : interleave ≡ true → taxa ≤ lines → taxa ≡ 0 → 0 ≡ row_count interleave lines taxa
  unfolding row_count pick
  count_none e h z = rw (e, le-ltb lines taxa h) (omega arith)

  pub count-pages : interleave ≡ true → taxa ≤ lines → taxa - lines % taxa ≡ row_count interleave lines taxa
  unfolding row_count pick
  count-pages e h = rw (e, le-ltb lines taxa h)

  -- There are no more rows than lines and taxa can be.
  pub count_most : (most : ℕ) → lines ≤ most → taxa ≤ most → row_count interleave lines taxa ≤ most
  unfolding row_count pick
  count_most most l t =
      by-test interleave
      (λ e. rw e (by-test (ltb lines taxa) (λ f. rw f (omega arith)) (λ f. rw f (omega arith))))
      (λ e. rw e l)

  module _ (row : ℕ) where
    pub first-sequential : interleave ≡ false → row ≡ first_line interleave lines taxa row
    unfolding first_line pick
    first-sequential e = rw e

    pub first-none : interleave ≡ true → taxa ≡ 0 → row ≡ first_line interleave lines taxa row
    unfolding first_line pick
    first-none e z = rw (e, z)

    pub first-pages : interleave ≡ true → (taxa ≡ 0 → ⊥) → lines % taxa + row ≡ first_line interleave lines taxa row
    unfolding first_line pick
    first-pages e h = rw (e, lt-ltb 0 taxa (omega (arith, h)))
