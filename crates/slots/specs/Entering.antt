-- Names in a table with a trie behind it. A search looks at the slots of a window, from the slot of a name on; a name that found none of them free when it
-- was entered is in the trie.
use Rattle.std.specs.Prelude.{ℕ, ◌+◌, ◌-◌, ◌≤◌, ◌<◌, ltb, length, get_or, take, List, ◌≡◌}
use Rattle.lexer.specs.Base.{pick}
use Rattle.slots.specs.Filling.{Taken, slot_of}
use Rattle.slots.specs.Hashes.{hash}
use Rattle.slots.specs.Trie.{Led, letters}
use Rattle.slots.specs.declared.Table.{Table}

-- Where the window from a slot on ends, in a table with this end.
unfoldable pub window_end : ℕ → ℕ → ℕ
window_end end from = pick (ltb 16 (end - from)) (from + 16) end

-- A number is entered from a slot on: it stands at the first slot that is free, or before it, or, where none is free up to the end of the window, in the
-- trie.
pub record EnteredFrom (work : List ℕ) (from stop head : ℕ) (ls : List ℕ) (v : ℕ) : Type 0 where
  pub place : ℕ
  pub ahead : from ≤ place
  pub within : from < place → place ≤ stop
  pub taken : Taken work from place
  pub holds : place < stop → get_or work place 0 ≡ v
  pub led : stop ≤ place → Led work head ls v

-- A number is entered in a table for a name.
abbrev pub Entered : List ℕ → Table → List ℕ → ℕ → Type 0
Entered work t name v = EnteredFrom work (slot_of t (hash name)) (window_end t.end (slot_of t (hash name))) t.end (letters name) v

-- A number was entered for a name, and all that were are so still; work memory is as it was in front of the table.
pub record NameEntered (before after : List ℕ) (t : Table) (name : List ℕ) (v : ℕ) : Type 0 where
  pub size : length after ≡ length before
  pub front : take t.base after ≡ take t.base before
  pub new : Entered after t name v
  pub old : (n : List ℕ) (w : ℕ) → 0 < w → Entered before t n w → Entered after t n w
