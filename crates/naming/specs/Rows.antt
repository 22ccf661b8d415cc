-- The rows of a record where they stand, and their names.
use Rattle.std.specs.Prelude.{ℕ, ◌+◌, length, drop, Bool, true, List, ◌∷◌, ◌++◌, ◌≡◌}
use Rattle.block.specs.Interleaved.{all_long}
use Rattle.block.specs.Reading.{Taxon}
use Rattle.block.specs.Sequential.{names}
use Rattle.block.specs.Sound.{names_differ}
use Rattle.lexer.specs.Base.{alike, byte}
use Rattle.record.specs.Lookup.{before_cells}
use Rattle.record.specs.Spell.{escaped, spell_cells, spell_taxa}

-- Rows stand at a place, each with so many cells.
pub record RowsStand (b : List ℕ) (at characters : ℕ) (ts : List Taxon) (rest : List ℕ) : Type 0 where
  pub long : all_long characters ts ≡ true
  pub here : drop at b ≡ spell_taxa ts rest

-- Where rows stand, the cells of the first begin here.
abbrev pub CellsBegin : List ℕ → ℕ → ℕ → Type 0
CellsBegin b at r = (t : Taxon) (ts : List Taxon) (rest : List ℕ) → drop at b ≡ spell_taxa (t ∷ ts) rest → r ≡ at + before_cells t

-- Where the cells of a row stand, so many, and an LF behind them, the LF is here.
abbrev pub CellsEnd : List ℕ → ℕ → ℕ → ℕ → Type 0
CellsEnd b at characters r =
    (t : Taxon) (rest : List ℕ) → length t.cells ≡ characters → drop at b ≡ spell_cells t.cells ++ (byte "\n" ∷ rest)
    → r ≡ at + length (spell_cells t.cells)

-- Where a name and an LF stand, the answer is whether the name is like a given one.
abbrev pub NameLike : List ℕ → ℕ → List ℕ → Bool → Type 0
NameLike b at name r = (n rest : List ℕ) → drop at b ≡ escaped n ++ (byte "\n" ∷ rest) → r ≡ alike name n

-- Where so many rows stand, the answer is whether their names differ.
abbrev pub NamesJudged : List ℕ → ℕ → ℕ → ℕ → Bool → Type 0
NamesJudged b at taxa characters r =
    (ts : List Taxon) (rest : List ℕ) → length ts ≡ taxa → RowsStand b at characters ts rest → r ≡ names_differ (names ts)

-- Where rows stand, those behind the first stand here.
abbrev pub RowPassed : List ℕ → ℕ → ℕ → ℕ → Type 0
RowPassed b at characters r = (t : Taxon) (ts : List Taxon) (rest : List ℕ) → RowsStand b at characters (t ∷ ts) rest → RowsStand b r characters ts rest
