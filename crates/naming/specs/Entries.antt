-- Names of rows that were entered by their places, and a table that has them.
use Rattle.std.specs.Prelude.{ℕ, suc, ◌+◌, ◌*◌, ◌/◌, ◌%◌, ◌≤◌, ◌<◌, leb, length, get_or, take, Bool, true, false, ◌&&◌, not, List, [], ◌∷◌, ◌++◌, ◌≡◌, Some, None, Option}
use Rattle.block.specs.Names.{known}
use Rattle.block.specs.Reading.{Taxon}
use Rattle.block.specs.Sound.{names_differ}
use Rattle.lexer.specs.Base.{pick, alike}
use Rattle.naming.specs.Lines.{line_at}
use Rattle.naming.specs.Rows.{RowsStand}
use Rattle.record.specs.Spell.{escaped}
use Rattle.slots.specs.Filling.{Kept, TableSound, slot_of}
use Rattle.slots.specs.Hashes.{hash}
use Rattle.slots.specs.declared.Table.{Table}

-- The lines at some places.
unfoldable pub lines_at : List ℕ → List ℕ → List (List ℕ)
lines_at b [] = []
lines_at b (p ∷ r) = line_at b p ∷ lines_at b r

-- The lines of the names of rows.
unfoldable pub name_lines : List Taxon → List (List ℕ)
name_lines [] = []
name_lines (t ∷ r) = escaped t.name ∷ name_lines r

-- No text of the second is among the first.
unfoldable pub none_known : List (List ℕ) → List (List ℕ) → Bool
none_known es [] = true
none_known es (n ∷ r) = let more = none_known es r in not (known n es) && more

-- How many texts of the second are among the first.
unfoldable pub known_count : List (List ℕ) → List (List ℕ) → ℕ
known_count es [] = 0
known_count es (n ∷ r) = let more = known_count es r in pick (known n es) (suc more) more

-- At most so many texts of the second are among the first.
unfoldable pub few_known : List (List ℕ) → ℕ → List (List ℕ) → Bool
few_known es most ns = leb (known_count es ns) most

-- No two of the second are alike, and none is among the first.
unfoldable pub new_differ : List (List ℕ) → List (List ℕ) → Bool
new_differ es ns = none_known es ns && names_differ ns

-- Where so many rows stand, the answer is a test of the lines of their names.
abbrev pub RowsJudged : List ℕ → ℕ → ℕ → ℕ → (List (List ℕ) → Bool) → Bool → Type 0
RowsJudged b characters at rows test r =
    (ts : List Taxon) (rest : List ℕ) → length ts ≡ rows → RowsStand b at characters ts rest → r ≡ test (name_lines ts)

-- What remains to be judged: an answer for some rows by one test is one for others by another.
pub record Remains (b : List ℕ) (characters at rows : ℕ) (test : List (List ℕ) → Bool) (here left : ℕ) (other : List (List ℕ) → Bool) : Type 0 where
  pub back : (r : Bool) → RowsJudged b characters here left other r → RowsJudged b characters at rows test r

-- The slot at which the search for a line begins, by its number: the halves of the number change places. Names whose upper bits are alike are suspects
-- more often than others (Sifting), and would have slots that lie together.
unfoldable pub line_slot : Table → ℕ → ℕ
line_slot t h = slot_of t (h % 65536 * 65536 + h / 65536)

-- The table has the lines at some places: the number of each, with 1 added, is kept from the slot of the line on.
pub record LinesKept (b slots places : List ℕ) (t : Table) : Type 0 where
  pub each : (k : ℕ) → k < length places → Kept slots (line_slot t (hash (line_at b (get_or places k 0)))) t.end (k + 1)

-- The line that a slot holds, by its number with 1 added, is like the line at a place; or there is none such.
pub record SlotLike (b : List ℕ) (at : ℕ) (places : List ℕ) (value : ℕ) (r : Bool) : Type 0 where
  pub hit : r ≡ true → known (line_at b at) (lines_at b places) ≡ true
  pub miss : r ≡ false → (k : ℕ) → value ≡ k + 1 → k < length places → alike (line_at b at) (line_at b (get_or places k 0)) ≡ false

-- A line can be sought from a slot on among those at so many places: each that is like it is kept from that slot on.
pub record LineSought (b : List ℕ) (at : ℕ) (slots places : List ℕ) (count from end : ℕ) : Type 0 where
  pub room : count ≤ length places
  pub kept : (k : ℕ) → k < count → alike (line_at b at) (line_at b (get_or places k 0)) ≡ true → Kept slots from end (k + 1)

-- There is room for one line more behind those at so many places, which the table has.
pub record RoomFor (b slots places : List ℕ) (count : ℕ) (t : Table) : Type 0 where
  pub sound : TableSound t
  pub within : t.end ≤ length slots
  pub room : count < length places
  pub few : count < 4294967295
  pub kept : LinesKept b slots (take count places) t

-- There is room for the names of so many rows.
pub record RoomOf (slots places : List ℕ) (rows : ℕ) (t : Table) : Type 0 where
  pub sound : TableSound t
  pub within : t.end ≤ length slots
  pub room : rows ≤ length places
  pub few : rows ≤ 4294967295

-- A line was looked for among those at so many places, and entered where it is not among them.
pub record LineEntered (b : List ℕ) (at : ℕ) (slots after places placed : List ℕ) (count : ℕ) (t : Table) (r : Bool) : Type 0 where
  pub size : length after ≡ length slots
  pub room : length placed ≡ length places
  pub told : r ≡ known (line_at b at) (lines_at b (take count places))
  pub more : r ≡ false → take (count + 1) placed ≡ take count places ++ (at ∷ [])
  pub kept : r ≡ false → LinesKept b after (take (count + 1) placed) t

-- The names of so many rows were entered, with any rows behind them: two are alike; or none is, and the rows behind remain to be judged.
pub record NamesEntered (b : List ℕ) (characters at rows : ℕ) (slots after places placed : List ℕ) (t : Table) (r : Option ℕ) : Type 0 where
  pub size : length after ≡ length slots
  pub room : length placed ≡ length places
  pub twice : r ≡ None → (later : ℕ) → RowsJudged b characters at (rows + later) names_differ false
  pub kept : (next : ℕ) → r ≡ Some next → LinesKept b after (take rows placed) t
  pub rest : (next : ℕ) → r ≡ Some next → (later : ℕ)
      → Remains b characters at (rows + later) names_differ next later (new_differ (lines_at b (take rows placed)))
