-- The names of rows kept in order, inserted one by one: what is kept at each row. Assumes nothing.
use Rattle.std.specs.Prelude.{Some, None, Option}
use Prim.Native.Nat.{ℕ, ◌+◌, ◌-◌, ◌≤◌, ◌<◌}
use Rattle.block.specs.Sound.{names_differ}
use Rattle.naming.proofs.JudgedLaws.{remains-all, remains-on, twice-nowhere, behind-somewhere, same-behind, NamesPassed, passed_start, passed-twice, passed-turn, passed-end, behind-known, behind-new, by_lines, none_left}
use Rattle.naming.specs.Entries.{lines_at, few_known, RowsJudged, Remains}
use Rattle.naming.specs.Order.{Rising, LineInserted, NamesInserted, RowsHeld}
use Rattle.naming.specs.Rows.{RowPassed, NamesJudged}
use lib.ListN.{length, take}
use mathlib.Core.Bool.{Bool, true, false}
use mathlib.Core.List.{List}
use mathlib.Core.Path.{◌≡◌, refl, sym, ap, ◌∙◌}
use native.Mathlib.Omega.{arith}

-- The names of so many rows were inserted, and are in order.
pub record Inserting (b : List ℕ) (characters at rows : ℕ) (places₀ places : List ℕ) (here count : ℕ) : Type 0 where
  pub room : length places ≡ length places₀
  pub rising : Rising b (take count places)
  pub passed : NamesPassed b characters at rows (lines_at b (take count places)) here count

module _ (b : List ℕ) (characters at rows : ℕ) (places₀ : List ℕ) where
  pub inserting-start : Inserting b characters at rows places₀ places₀ at 0
  unfolding lines_at
  inserting-start = record { room = refl; rising = record { each = λ i k h l. absurd (omega arith) }; passed = passed_start }

  module _ (places : List ℕ) (here count : ℕ) (k : Inserting b characters at rows places₀ places here count) where
    module _ (h : count < rows) (placed : List ℕ) {name : ℕ} (begins : here < length b → name ≡ here + 5) {r : Bool} (is : LineInserted b name places placed count r) where
      pub inserting-twice : r ≡ true → NamesInserted b characters at rows placed None
      inserting-twice y =
          record {
            twice = λ _. passed-twice k.passed h begins (sym is.told ∙ y);
            rising = λ next e. absurd (twice-nowhere next e);
            rest = λ next e. absurd (twice-nowhere next e);
          }

      pub inserting-turn : r ≡ false → length placed ≡ length places → {next : ℕ} → RowPassed b here characters next
          → Inserting b characters at rows places₀ placed next (count + 1)
      inserting-turn n kept passed =
          record { room = kept ∙ k.room; rising = is.rising n; passed = passed-turn k.passed h begins (sym is.told ∙ n) passed (is.more n) }

    pub inserting-end : rows ≤ count → NamesInserted b characters at rows places (Some here)
    inserting-end h =
        let all : rows ≡ count = omega (arith, k.passed.few) in
        record {
          twice = λ e. absurd (behind-somewhere here e);
          rising = λ next e. rw all k.rising;
          rest = λ next e later. rw (← same-behind here next e, ap (λ n. take n places) all) (passed-end k.passed h later);
        }

-- The names of some rows, inserted, and those of the rows behind them.
module _ (b : List ℕ) (characters at rows later : ℕ) (placed : List ℕ) {r : Option ℕ} (e : NamesInserted b characters at rows placed r) where
  pub held-twice : r ≡ None → RowsHeld b characters at rows later None
  held-twice is = record { twice = λ _. e.twice is later; rest = λ next q. absurd (twice-nowhere next q) }

  module _ (next : ℕ) (is : r ≡ Some next) {n : Bool} (looked : RowsJudged b characters next later (few_known (lines_at b (take rows placed)) 0) n) where
    pub held-known : n ≡ false → RowsHeld b characters at rows later None
    held-known f = record { twice = λ _. behind-known (lines_at b (take rows placed)) (e.rest next is later) looked f; rest = λ next q. absurd (twice-nowhere next q) }

    pub held-behind : n ≡ true → RowsHeld b characters at rows later (Some next)
    held-behind y =
        record {
          twice = λ q. absurd (behind-somewhere next q);
          rest = λ place q. rw (← same-behind next place q) (behind-new (lines_at b (take rows placed)) (e.rest next is later) looked y);
        }

-- Names of rows that were held against all behind them, as far as here, are different; those of the rows from here on remain to be judged.
pub record Holding (b : List ℕ) (characters at taxa : ℕ) (places₀ places : List ℕ) (here left : ℕ) : Type 0 where
  pub room : length places ≡ length places₀
  pub rest : Remains b characters at taxa names_differ here left names_differ

module _ (b : List ℕ) (characters at taxa : ℕ) (places₀ : List ℕ) where
  pub holding-start : Holding b characters at taxa places₀ places₀ at taxa
  holding-start = record { room = refl; rest = remains-all at taxa names_differ }

  module _ (places : List ℕ) (here left : ℕ) (k : Holding b characters at taxa places₀ places here left) where
    module _ {rows : ℕ} (few : rows ≤ left) {r : Option ℕ} (held : RowsHeld b characters here rows (left - rows) r) where
      all-rows : rows + (left - rows) ≡ left
      all-rows = omega arith

      pub holding-twice : r ≡ None → NamesJudged b at taxa characters false
      holding-twice is = by_lines b characters at taxa false (k.rest.back false (rw all-rows at (held.twice is)))

      pub holding-turn : (placed : List ℕ) → length placed ≡ length places → (next : ℕ) → r ≡ Some next
          → Holding b characters at taxa places₀ placed next (left - rows)
      holding-turn placed kept next is = record { room = kept ∙ k.room; rest = remains-on k.rest (rw all-rows at (held.rest next is)) }

    pub holding-end : left ≤ 0 → NamesJudged b at taxa characters true
    holding-end h = none_left b characters at taxa here left k.rest h
