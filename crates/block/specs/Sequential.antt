-- Sequential rows: a name, then NCHAR cells, broken anywhere; NTAX rows.
use Rattle.std.specs.Prelude.{ℕ, ltb, eqb, length, List, [], ◌∷◌, ◌++◌}
use Rattle.block.specs.Chunk.{Row, plain, within, chunk}
use Rattle.block.specs.Format.{Format}
use Rattle.block.specs.Names.{known}
use Rattle.block.specs.Outcome.{Outcome, done, refused, then, fold, need}
use Rattle.block.specs.Reading.{Taxon}
use Rattle.lexer.specs.Base.{pick}
use Rattle.lexer.specs.Words.{Numbered, label}
use Rattle.lexer.specs.declared.refusal.Refusal.{Refusal}

-- What the matrix is to be: NTAX, NCHAR, the format, and the index of the word MATRIX.
pub record Shape : Type 0 where
  pub taxa : ℕ
  pub characters : ℕ
  pub format : Format
  pub head : ℕ

unfoldable pub names : List Taxon → List (List ℕ)
names [] = []
names (t ∷ r) = t.name ∷ names r

-- Where the matrix is: between two rows; or in a row, with the index of its name.
pub data Sequence : Type 0 where
  between : List Taxon → Sequence
  inside : List Taxon → ℕ → List ℕ → Row → Sequence

-- A row begins with its name.
unfoldable pub row_begins : List Taxon → Numbered → List ℕ → Outcome Sequence
row_begins rows w n =
    pick (known n (names rows)) (refused Refusal.TaxonTwice w.index) (done (inside rows w.index n (plain [])))

-- A row after one token more: a full row is a taxon; a word that is too much is refused.
unfoldable pub row_grown : Shape → List Taxon → ℕ → List ℕ → Numbered → Row → Outcome Sequence
row_grown sh rows i n w (within cells k j set) = done (inside rows i n (within cells k j set))
row_grown sh rows i n w (plain cells) =
    let full = done (between (rows ++ (record { name = n; cells = cells } ∷ []))) in
    pick (ltb sh.characters (length cells)) (refused Refusal.Row w.index)
    (pick (eqb (length cells) sh.characters) full
    (done (inside rows i n (plain cells))))

unfoldable pub sequential_turn : Shape → Sequence → Numbered → Outcome Sequence
sequential_turn sh (between rows) w =
    let row = then (need (label w) Refusal.NotName w.index) (row_begins rows w) in
    pick (eqb (length rows) sh.taxa) (refused Refusal.Count w.index) row
sequential_turn sh (inside rows i n row) w = then (chunk sh.format row w) (row_grown sh rows i n w)

-- At the end of the matrix all rows must be there and whole.
unfoldable pub row_open : ℕ → Row → Outcome (List Taxon)
row_open i (plain cells) = refused Refusal.Row i
row_open i (within cells k j set) = refused Refusal.StateSet j

unfoldable pub sequential_end : Shape → Sequence → Outcome (List Taxon)
sequential_end sh (between rows) = pick (eqb (length rows) sh.taxa) (done rows) (refused Refusal.Count sh.head)
sequential_end sh (inside rows i n row) = row_open i row

-- The rows of a sequential matrix, in the order of the text.
unfoldable pub sequential : Shape → List Numbered → Outcome (List Taxon)
sequential sh ws = then (fold (sequential_turn sh) (between []) ws) (sequential_end sh)
