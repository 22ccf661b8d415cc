-- Stored rows by a table of their names.
use Rattle.std.specs.Prelude.{ℕ, ◌+◌, ◌≤◌, ◌<◌, ltb, length, get_or, take, Bool, true, ◌&&◌, List, [], ◌∷◌, ◌++◌, ◌≡◌}
use Rattle.lexer.specs.Base.{alike}
use Rattle.matrix.specs.Lines.{name_at, stored}
use Rattle.matrix.specs.OrderHeld.{all_below}
use Rattle.slots.specs.Entering.{Entered}
use Rattle.slots.specs.Filling.{TableSound}
use Rattle.slots.specs.declared.Table.{Table}

-- Has the stored row of a number the name of a word?
unfoldable pub row_alike : List ℕ → List ℕ → ℕ → ℕ → ℕ → Bool
row_alike text work at i k = alike (name_at text work i) (name_at text work (get_or work (at + k) 0))

-- Is there a row of a number among so many, and has it the name of a word?
unfoldable pub row_named : List ℕ → List ℕ → ℕ → ℕ → ℕ → ℕ → Bool
row_named text work at rows i k = ltb k rows && row_alike text work at i k

-- The table has each of so many stored rows: its number, with 1 added, is entered for its name.
pub record Indexed (text work : List ℕ) (at rows : ℕ) (t : Table) : Type 0 where
  pub each : (k : ℕ) → k < rows → Entered work t (name_at text work (get_or work (at + k) 0)) (k + 1)

-- So many rows are stored, and a sound table has them.
pub record RowsTabled (text work : List ℕ) (at rows : ℕ) (t : Table) : Type 0 where
  pub room : at + rows ≤ length work
  pub sound : TableSound t
  pub indexed : Indexed text work at rows t

-- There is room for one row more, in front of the table.
pub record RowRoom (work : List ℕ) (at rows s : ℕ) (t : Table) : Type 0 where
  pub front : at + rows < t.base
  pub order : t.base ≤ t.end
  pub space : at + rows < length work
  pub table : t.end ≤ length work
  pub sound : TableSound t
  pub few : rows ≤ 1048576
  pub word : s ≤ 1048576

-- One row more was stored, and put into the table if its name is to be new.
pub record RowPut (text before after : List ℕ) (at rows s : ℕ) (t : Table) (new : Bool) : Type 0 where
  pub size : length after ≡ length before
  pub kept : take at after ≡ take at before
  pub more : stored after at (rows + 1) ≡ stored before at rows ++ (s ∷ [])
  pub indexed : new ≡ true → all_below at (stored before at rows) → s < at → Indexed text before at rows t → Indexed text after at (rows + 1) t

-- A sound table stands behind so many stored rows.
pub record RowsBehind (work : List ℕ) (lines rows : ℕ) (t : Table) : Type 0 where
  pub front : lines + rows ≤ t.base
  pub order : t.base ≤ t.end
  pub space : lines + rows ≤ length work
  pub table : t.end ≤ length work
  pub sound : TableSound t
  pub few : rows ≤ 1048576

-- Stored rows were put into a table behind them, and with it behind their words.
pub record RowsPut (text before after : List ℕ) (lines rows : ℕ) (t : Table) : Type 0 where
  pub size : length after ≡ length before
  pub front : take t.base after ≡ take t.base before
  pub indexed : all_below t.base (stored before lines rows) → Indexed text after lines rows t
