-- The names of TAXLABELS that were judged, by a table that has their words.
use Rattle.std.specs.Prelude.{ℕ, ◌+◌, ◌≤◌, ◌<◌, length, take, Bool, true, false, List, ◌≡◌, Result, ⊤}
use Rattle.block.specs.Commands.{newline, words}
use Rattle.block.specs.Judged.{judged}
use Rattle.block.specs.Names.{unique_names}
use Rattle.block.specs.NamesHeld.{name_of, names_of}
use Rattle.lexer.specs.Base.{alike}
use Rattle.lexer.specs.Stored.{word_of, range}
use Rattle.slots.specs.Entering.{Entered}
use Rattle.slots.specs.Filling.{TableSound}
use Rattle.slots.specs.declared.Table.{Table}
use Rattle.lexer.specs.declared.Fault.{Fault}

-- A word from an index up to another has the name of that one.
pub record SameName (text work : List ℕ) (from i j : ℕ) : Type 0 where
  pub since : from ≤ j
  pub before : j < i
  pub word : newline (word_of text work j) ≡ false
  pub same : alike (name_of (word_of text work i)) (name_of (word_of text work j)) ≡ true

-- The word that a slot holds, by its index with 1 added, is such a word, or is none.
pub record SlotAlike (text work : List ℕ) (from i value : ℕ) (r : Bool) : Type 0 where
  pub hit : r ≡ true → (j : ℕ) → value ≡ j + 1 → SameName text work from i j
  pub miss : r ≡ false → (j : ℕ) → value ≡ j + 1 → SameName text work from i j → ⊥

-- The table has the words from an index up to another: the index of each, with 1 added, is entered for its name.
pub record NamesKept (text work : List ℕ) (from i : ℕ) (t : Table) : Type 0 where
  pub each : (j : ℕ) → from ≤ j → j < i → newline (word_of text work j) ≡ false → Entered work t (name_of (word_of text work j)) (j + 1)

-- A word was put into the table: in front of the table work memory is as it was.
pub record NamePut (text before after : List ℕ) (i : ℕ) (t : Table) : Type 0 where
  pub size : length after ≡ length before
  pub front : take t.base after ≡ take t.base before
  pub new : (t.base < length before → i < 4294967295) → Entered after t (name_of (word_of text before i)) (i + 1)
  pub old : (n : List ℕ) (w : ℕ) → 0 < w → Entered before t n w → Entered after t n w

-- A sound table stands behind the words up to an index; if there is room for it, they are no more than those of the longest text.
pub record NamesRoom (work : List ℕ) (to : ℕ) (t : Table) : Type 0 where
  pub front : to ≤ t.base
  pub order : t.base ≤ t.end
  pub table : t.end ≤ length work
  pub sound : TableSound t
  pub few : t.base < length work → to ≤ 1048576

-- The words from an index up to another were judged as those of TAXLABELS: in front of a place behind them work memory is as it was.
pub record NamesJudged (text before after : List ℕ) (from to base : ℕ) (r : Result ⊤ (Fault ℕ)) : Type 0 where
  pub size : length after ≡ length before
  pub front : take base after ≡ take base before
  pub names : judged (names_of (words (range text before from to))) r ≡ unique_names (words (range text before from to))
