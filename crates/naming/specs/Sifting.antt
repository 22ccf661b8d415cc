-- Names that are sifted: the bits of each name's number are set, and a name whose bits were all set before is entered.
use Rattle.std.specs.Prelude.{ℕ, ◌*◌, ◌^◌, ◌/◌, ◌%◌, ◌≤◌, ◌<◌, length, get_or, take, Bool, true, false, List, [], ◌∷◌, ◌++◌, ◌≡◌, Ok, Err, Result}
use Rattle.block.specs.Names.{known}
use Rattle.block.specs.Sound.{names_differ}
use Rattle.block.specs.declared.data.TaxonNumber.{TaxonNumber}
use Rattle.naming.specs.Entries.{few_known, lines_at, LinesKept, Remains, RowsJudged}
use Rattle.naming.specs.Lines.{line_at}
use Rattle.naming.specs.Rows.{NamesJudged}
use Rattle.naming.specs.declared.filter.Clash.{Clash}
use Rattle.slots.specs.Hashes.{hash}
use Rattle.slots.specs.declared.Table.{Table}
use Rattle.std.specs.Int.Bits.{bit_or}

-- The bits of a number, and the other number that it tells.
unfoldable pub bits_of : ℕ → ℕ
bits_of h = bit_or (2 ^ (h / 4096 % 64)) (2 ^ (h / 64 % 64))

unfoldable pub other_of : ℕ → ℕ
other_of h = h % 4294967296 * 2654435761 % 4294967296

-- Bits are set in the word at an index, where there is such a word.
abbrev pub Set : List ℕ → ℕ → ℕ → Type 0
Set words i bits = i < length words → bit_or (get_or words i 0) bits ≡ get_or words i 0

-- Bits were set in a word, besides all that were; the answer is whether one of them was not before, as far as it is true.
pub record BitsSet (words after : List ℕ) (i bits : ℕ) (r : Bool) : Type 0 where
  pub size : length after ≡ length words
  pub new : Set after i bits
  pub old : (j more : ℕ) → Set words j more → Set after j more
  pub told : r ≡ true → Set words i bits → ⊥

-- The bits of a number and of the other are set, each in its own word.
pub record Marked (words : List ℕ) (h : ℕ) : Type 0 where
  pub first : Set words (h / 262144) (bits_of h)
  pub second : Set words (other_of h / 262144) (bits_of (other_of h))

-- The same of the bits of a number and of the other.
pub record Marks (words marked : List ℕ) (h : ℕ) (r : Bool) : Type 0 where
  pub size : length marked ≡ length words
  pub new : Marked marked h
  pub old : (g : ℕ) → Marked words g → Marked marked g
  pub told : r ≡ true → Marked words h → ⊥

-- A name was sifted: it is new by its bits, and nothing was entered; or it was entered, and was not among those that were.
pub data Sifts (marked : Type 0) (n : List ℕ) (es : List (List ℕ)) (more : List (List ℕ)) : Type 0 where
  passed : (marked → ⊥) → more ≡ es → Sifts marked n es more
  entered : known n es ≡ false → more ≡ es ++ (n ∷ []) → Sifts marked n es more

-- A line was sifted, with so many entered before it: it is among these; or it was entered, or is new; or there was no room for it.
pub record LineSifted (b : List ℕ) (at : ℕ) (words marked slots after places placed : List ℕ) (count : ℕ) (t : Table) (r : Result TaxonNumber Clash) : Type 0 where
  pub width : length marked ≡ length words
  pub size : length after ≡ length slots
  pub room : length placed ≡ length places
  pub new : Marked marked (hash (line_at b at))
  pub old : (h : ℕ) → Marked words h → Marked marked h
  pub twice : r ≡ Err Clash.Twice → known (line_at b at) (lines_at b (take count places)) ≡ true
  pub few : (n : TaxonNumber) → r ≡ Ok n → n.0 ≤ length placed
  pub kept : (n : TaxonNumber) → r ≡ Ok n → LinesKept b after (take n.0 placed) t
  pub next : (n : TaxonNumber) → r ≡ Ok n
      → Sifts (Marked words (hash (line_at b at))) (line_at b at) (lines_at b (take count places)) (lines_at b (take n.0 placed))

-- The names of so many rows were sifted: two are alike; or so many were entered, and no two are alike exactly if at most so many are among these; or
-- there was no room for one.
pub record NamesSifted (b : List ℕ) (characters at rows : ℕ) (slots after places placed : List ℕ) (t : Table) (r : Result TaxonNumber Clash) : Type 0 where
  pub size : length after ≡ length slots
  pub room : length placed ≡ length places
  pub twice : r ≡ Err Clash.Twice → RowsJudged b characters at rows names_differ false
  pub few : (n : TaxonNumber) → r ≡ Ok n → n.0 ≤ length placed
  pub kept : (n : TaxonNumber) → r ≡ Ok n → LinesKept b after (take n.0 placed) t
  pub rest : (n : TaxonNumber) → r ≡ Ok n
      → Remains b characters at rows names_differ at rows (few_known (lines_at b (take n.0 placed)) n.0)

-- The names of so many rows were compared: where the answer is that they differ, or that two are alike, it is so. That there are too many suspects says nothing.
pub record NamesCompared (b : List ℕ) (at taxa characters : ℕ) (r : Result (Unit {0}) Clash) : Type 0 where
  pub differ : r ≡ Ok tt → NamesJudged b at taxa characters true
  pub twice : r ≡ Err Clash.Twice → NamesJudged b at taxa characters false
