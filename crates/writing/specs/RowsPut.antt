-- The rows of a record, put as the written form has them; its counts and its format.
use Rattle.std.specs.Prelude.{ℕ, ◌≤◌, length, drop, Bool, true, List, [], ◌∷◌, ◌++◌, ◌≡◌}
use Rattle.block.specs.Interleaved.{all_long}
use Rattle.block.specs.Reading.{Taxon}
use Rattle.block.specs.Sound.{sound_cells, sound_rows}
use Rattle.block.specs.declared.data.DataType.{DataType}
use Rattle.emit.specs.Puts.{Puts}
use Rattle.lexer.specs.Base.{byte, bytes}
use Rattle.record.specs.Decimal.{decimal}
use Rattle.record.specs.Form.{form_cells, form_rows, gap_option, quoted}
use Rattle.record.specs.Spell.{spell_taxa}
use Rattle.writing.specs.Signs.{Signed}
use Rattle.writing.specs.declared.Putting.{Putting}

-- DIMENSIONS, by the counts of taxa and characters.
unfoldable pub form_counts : ℕ → ℕ → List ℕ → List ℕ
form_counts taxa characters behind =
    bytes "DIMENSIONS NTAX=" ++ (decimal taxa ++ (bytes " NCHAR=" ++ (decimal characters ++ (bytes ";\n" ++ behind))))

-- FORMAT of a record with its own symbols, by the signs of missing and of a gap.
unfoldable pub form_standard : ℕ → ℕ → List ℕ → Bool → List ℕ → List ℕ
form_standard missing gap symbols gaps behind =
    bytes "FORMAT DATATYPE=STANDARD RESPECTCASE MISSING="
    ++ (missing ∷ gap_option gap gaps (bytes " SYMBOLS=\"" ++ (symbols ++ (bytes "\";\n" ++ behind))))

-- One row.
unfoldable pub form_row : DataType → List ℕ → Taxon → List ℕ → List ℕ
form_row t symbols x behind = quoted x.name (byte " " ∷ form_cells t symbols x.cells (byte "\n" ∷ behind))

-- A row was put: the next place of the record is where the rest stands, and that of the buffer is behind the row.
pub record TaxonPut (b : List ℕ) (rest before : List ℕ) (n : ℕ) (piece : List ℕ → List ℕ) (after : List ℕ) (r : Putting) : Type 0 where
  pub next : drop r.at b ≡ rest
  pub put : Puts before n piece after r.n

-- Where the lines of a taxon with some sound cells stand, its row is put.
abbrev pub RowPut : List ℕ → List ℕ → ℕ → List ℕ → ℕ → List ℕ → Putting → Type 0
RowPut b signs at before n after r =
    (t : DataType) (symbols : List ℕ) → Signed t symbols signs → (x : Taxon) (rest : List ℕ) → 1 ≤ length x.cells → sound_cells (length symbols) x.cells ≡ true
    → drop at b ≡ spell_taxa (x ∷ []) rest → TaxonPut b rest before n (form_row t symbols x) after r

-- Taxa with sound cells, so many each and at least one, stand at a place.
pub record TaxaHere (b : List ℕ) (states count at : ℕ) (ts : List Taxon) (rest : List ℕ) : Type 0 where
  pub some : 1 ≤ count
  pub long : all_long count ts ≡ true
  pub sound : sound_rows states ts ≡ true
  pub here : drop at b ≡ spell_taxa ts rest

-- Where so many taxa stand, their rows are put.
abbrev pub RowsPut : List ℕ → List ℕ → ℕ → ℕ → List ℕ → ℕ → List ℕ → ℕ → Type 0
RowsPut b signs taxa at before n after next =
    (t : DataType) (symbols : List ℕ) → Signed t symbols signs → (count : ℕ) (ts : List Taxon) (rest : List ℕ) → length ts ≡ taxa
    → TaxaHere b (length symbols) count at ts rest → Puts before n (form_rows t symbols ts) after next
