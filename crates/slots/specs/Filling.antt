-- The slots of a table. A number is kept from a slot on where it stands at the first slot from there on that is free, or before it; or where none is
-- free up to the end of the table.
use Rattle.std.specs.Prelude.{ℕ, ◌+◌, ◌*◌, ◌/◌, ◌^◌, ◌≤◌, ◌<◌, length, get_or, take, List, ◌≡◌, Some, None, Option}
use Rattle.slots.specs.declared.Table.{Table}

-- The slot at which the search for a name begins, by its number, which has 32 bits: it stands among the slots as the number does among all of 32 bits.
unfoldable pub slot_of : Table → ℕ → ℕ
slot_of t h = t.base + h * t.size / 4294967296

-- A search can begin in a table.
pub record TableSound (t : Table) : Type 0 where
  pub few : t.size ≤ 4294967296
  pub small : t.base + t.size ≤ 2 ^ 63

-- A table that begins at an index and fits into so many numbers.
pub record TableFits (base size : ℕ) (t : Table) : Type 0 where
  pub begins : t.base ≡ base
  pub ahead : base ≤ t.end
  pub within : t.end ≤ size
  pub sound : TableSound t

-- Every slot from one up to another is taken.
abbrev pub Taken : List ℕ → ℕ → ℕ → Type 0
Taken work from to = (q : ℕ) → from ≤ q → q < to → 0 < get_or work q 0

-- The first free slot from one on, or the end of the table.
pub record Free (work : List ℕ) (from end p : ℕ) : Type 0 where
  pub ahead : from ≤ p
  pub within : from < p → p ≤ end
  pub taken : Taken work from p
  pub stop : p < end → get_or work p 0 ≡ 0

-- The first free slot from one on, if there is one in front of the end of the table.
abbrev pub FreeFound : List ℕ → ℕ → ℕ → Option ℕ → Type 0
FreeFound work from end (Some p) = Free work from end p × (p < end)
FreeFound work from end None = Taken work from end

-- A number is kept from a slot on.
pub record Kept (work : List ℕ) (from end v : ℕ) : Type 0 where
  pub place : ℕ
  pub ahead : from ≤ place
  pub taken : Taken work from place
  pub holds : place < end → get_or work place 0 ≡ v

-- A table was cleared: work memory is as it was in front of it.
pub record Cleared (before after : List ℕ) (base : ℕ) : Type 0 where
  pub size : length after ≡ length before
  pub front : take base after ≡ take base before

-- A number was put into a table: it is kept from its slot on, and so is every number that was; in front of its slot work memory is as it was.
pub record Filled (before after : List ℕ) (from end v : ℕ) : Type 0 where
  pub size : length after ≡ length before
  pub front : take from after ≡ take from before
  pub new : Kept after from end v
  pub old : (p w : ℕ) → 0 < w → Kept before p end w → Kept after p end w
