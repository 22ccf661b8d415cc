-- A table by its rule. Of a constant one: the list of the rule's values computes to the table's entries, and holds the rule at each index. Of one
-- that a loop fills: each turn stores the rule's value at the next index. Assumes nothing.
use Prim.Native.Nat.{ℕ, zero, suc, ◌+◌, ◌*◌, ◌/◌, ◌%◌, ◌<◌}
use Rattle.lexer.proofs.Basics.{by-test}
use Rattle.lexer.specs.Tables.{tabulated}
use borrow.Author.Tests.{eqb-true, eqb-false}
use lib.Dec.{eqb}
use lib.ListN.{length, get_or, set}
use lib.Seq.{get_or-set_same, get_or-set_other}
use mathlib.Core.List.{List, []}
use mathlib.Core.Path.{◌≡◌, sym, ap, ◌∙◌}
use native.Mathlib.Nat.{add-zero, zero-add, add-suc, suc-add}
use native.Mathlib.Omega.{arith}

module _ {X : Type 0} (f : ℕ → X) where
  tabulated-from : (i n k : ℕ) (d : X) → k < n → get_or (tabulated f i n) k d ≡ f (i + k)
  unfolding tabulated
  tabulated-from i zero k d h = absurd (omega arith)
  tabulated-from i (suc n) zero d h = ap f (sym (add-zero i))
  tabulated-from i (suc n) (suc k) d h = tabulated-from (suc i) n k d (omega arith) ∙ ap f (suc-add i k ∙ sym (add-suc i k))

  -- what stands at an index
  pub tabulated-at : (n k : ℕ) (d : X) → k < n → get_or (tabulated f 0 n) k d ≡ f k
  tabulated-at n k d h = tabulated-from 0 n k d h ∙ ap f (zero-add k)

  -- The values of a rule at the numbers below 256, as a chart of sixteen rows.
  row : ℕ → List X
  row i = tabulated f (i * 16) 16

  unfoldable pub chart : List (List X)
  unfolding row
  chart = tabulated row 0 16

-- what stands at a number's row and column
pub chart-at : {X : Type 0} (f : ℕ → X) (b : ℕ) (d : X) → b < 256 → get_or (get_or (chart f) (b / 16) []) (b % 16) d ≡ f b
unfolding chart row
chart-at f b d h =
    let within : b % 16 < 16 = omega arith in
    let whole : b / 16 * 16 + b % 16 ≡ b = omega arith in
    rw (tabulated-at (row f) 16 (b / 16) [] (omega arith)) (tabulated-from f (b / 16 * 16) 16 (b % 16) d within ∙ ap f whole)

-- A table that is filled by a rule up to an index: nothing at the start, one entry more with each store.
pub record Filled {X : Type 0} (f : ℕ → X) (d : X) (table : List X) (i : ℕ) : Type 0 where
  pub entry : (k : ℕ) → k < i → get_or table k d ≡ f k

module _ {X : Type 0} (f : ℕ → X) (d : X) (table : List X) where
  pub filled-start : Filled f d table 0
  filled-start = record { entry = λ k h. absurd (omega arith) }

  pub filled-turn : (i : ℕ) → Filled f d table i → i < length table → Filled f d (set table i (f i)) (i + 1)
  filled-turn i s h = record { entry = λ k lt. by-test (eqb k i) (λ t. rw (eqb-true k i t) (get_or-set_same table i (f i) d h)) (λ n. earlier k lt (eqb-false k i n)) }
    where
      earlier : (k : ℕ) → k < i + 1 → (k ≡ i → ⊥) → get_or (set table i (f i)) k d ≡ f k
      earlier k lt ne = get_or-set_other table i k (f i) d ne ∙ s.entry k (omega (arith, ne))
