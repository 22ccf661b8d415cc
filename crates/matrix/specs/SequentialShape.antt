-- A sequential matrix as the code judges it: by the shape of its rows, and by the names of those that are stored.
use Rattle.std.specs.Prelude.{ℕ, ◌+◌, ◌-◌, ◌^◌, ◌≤◌, ◌<◌, eqb, leb, ltb, length, get_or, take, Bool, false, ◌||◌, List, ◌≡◌, Some, None, Ok, Err, Result}
use Rattle.block.specs.Codes.{Coded}
use Rattle.block.specs.Commands.{newline, words}
use Rattle.block.specs.Format.{Format}
use Rattle.block.specs.Names.{known}
use Rattle.block.specs.Outcome.{Outcome, done, refused}
use Rattle.block.specs.Reading.{Taxon}
use Rattle.block.specs.Sequential.{sequential}
use Rattle.block.specs.declared.kinds.Bracket.{Bracket}
use Rattle.lexer.specs.Base.{pick}
use Rattle.lexer.specs.Stored.{range, word_of}
use Rattle.lexer.specs.Words.{Numbered, label}
use Rattle.lexer.specs.declared.refusal.Refusal.{Refusal}
use Rattle.matrix.specs.Lines.{stored, rows_sequential}
use Rattle.matrix.specs.OrderHeld.{all_below}
use Rattle.matrix.specs.RowShape.{so_far, chunk_shape}
use Rattle.matrix.specs.WholeSets.{WholeSet}
use Rattle.matrix.specs.declared.matrix.Chunk.{Chunk}
use Rattle.matrix.specs.declared.matrix.Turned.{Turned}
use Rattle.std.proofs.Math.Option.{Option, none, some}
use Rattle.std.specs.Prelude as Std
use Rattle.lexer.specs.declared.Fault.{Fault}
use Rattle.lexer.specs.Refusals.{fault}

-- How many cells the row has in which a matrix is.
unfoldable pub cells_of_row : Std.Option (ℕ × Chunk) → ℕ
cells_of_row None = 0
cells_of_row (Some (s, row)) = so_far row

-- A row begins with its name, which is none of these, if there are to be more rows.
unfoldable pub named_shape : List (List ℕ) → ℕ → Option (List ℕ) → Outcome Turned
named_shape names i none = refused Refusal.NotName i
named_shape names i (some n) = pick (known n names) (refused Refusal.TaxonTwice i) (done (Turned.On (Some (i, (Chunk.Plain 0)))))

unfoldable pub begun_shape : ℕ → List (List ℕ) → Numbered → Outcome Turned
begun_shape taxa names w = pick (eqb (length names) taxa) (refused Refusal.Count w.index) (named_shape names w.index (label w))

-- A row after one token more, the one of an index: a full row is complete; a word that is too much is refused.
unfoldable pub grown_shape : ℕ → ℕ → ℕ → Outcome Chunk → Outcome Turned
grown_shape characters s i (refused n j) = refused n j
grown_shape characters s i (done (Chunk.Within n k mark empty)) = done (Turned.On (Some (s, (Chunk.Within n k mark empty))))
grown_shape characters s i (done (Chunk.Plain n)) =
    pick (ltb characters n) (refused Refusal.Row i)
    (pick (eqb n characters) (done (Turned.Full s))
    (done (Turned.On (Some (s, (Chunk.Plain n))))))

-- One word of the matrix, behind rows of these names.
unfoldable pub turn_shape : List ℕ → ℕ → ℕ → List (List ℕ) → Std.Option (ℕ × Chunk) → Numbered → Outcome Turned
turn_shape codes taxa characters names None w = begun_shape taxa names w
turn_shape codes taxa characters names (Some (s, row)) w = grown_shape characters s w.index (chunk_shape codes row w)

-- What one word or more come to, from an index on up to another: each but the last goes on.
pub data Turns (text work codes : List ℕ) (to taxa characters : ℕ) (names : List (List ℕ)) : Std.Option (ℕ × Chunk) → ℕ → Outcome Turned → ℕ → Type 0 where
  last : {line : Std.Option (ℕ × Chunk)} {i j : ℕ} {r : Outcome Turned} → j ≡ i + 1 → r ≡ turn_shape codes taxa characters names line (word_of text work i) → Turns text work codes to taxa characters names line i r j
  on : {line : Std.Option (ℕ × Chunk)} {i : ℕ} (next : Std.Option (ℕ × Chunk)) (k : ℕ) {r : Outcome Turned} {j : ℕ} → k ≡ i + 1 → turn_shape codes taxa characters names line (word_of text work i) ≡ done (Turned.On next)
      → k < to → newline (word_of text work k) ≡ false → Turns text work codes to taxa characters names next k r j → Turns text work codes to taxa characters names line i r j

-- May the word of an index fill a row of so many cells? It may, if no fewer bytes lie between its start and that of the next word than cells are lacking,
-- or if the next word begins in front of it.
unfoldable pub fills_row : (work : List ℕ) (i characters n : ℕ) → Bool
fills_row work i characters n =
    let start = get_or work i 0 in
    let next = get_or work (i + 1) 0 in
    ltb next start || leb characters (n + (next - start))

-- A row of so many cells behind one word, or behind the three of a whole set.
pub data ToldCells (text work codes : List ℕ) (to n i : ℕ) : ℕ → ℕ → Type 0 where
  word_told : {cells : ℕ} → chunk_shape codes (Chunk.Plain n) (word_of text work i) ≡ done (Chunk.Plain cells) → ToldCells text work codes to n i cells (i + 1)
  set_told : {k : Bracket} {states : List ℕ} → WholeSet codes text work i to k states → ToldCells text work codes to n i (n + 1) (i + 3)

-- A row of so many cells at an index goes on to a row of so many at another: what the words from there on come to, they come to from here on.
pub record CellsPassed (text work codes : List ℕ) (to characters n i cells next : ℕ) : Type 0 where
  pub below : next < to
  pub few : cells ≤ 2 ^ 41
  pub goes : (s taxa : ℕ) (names : List (List ℕ)) (r : Outcome Turned) (j : ℕ) → Turns text work codes to taxa characters names (Some (s, (Chunk.Plain cells))) next r j
      → Turns text work codes to taxa characters names (Some (s, (Chunk.Plain n))) i r j

-- At the end of the matrix all rows must be there and whole.
unfoldable pub open_shape : ℕ → Chunk → Result ℕ (Fault ℕ)
open_shape s (Chunk.Plain n) = Err (fault Refusal.Row s)
open_shape s (Chunk.Within n k mark empty) = Err (fault Refusal.StateSet mark)

unfoldable pub end_shape : ℕ → ℕ → ℕ → Std.Option (ℕ × Chunk) → Result ℕ (Fault ℕ)
end_shape taxa head rows None = pick (eqb rows taxa) (Ok rows) (Err (fault Refusal.Count head))
end_shape taxa head rows (Some (s, row)) = open_shape s row

-- What the code's answer means: the rows whose indices are stored, so many from an index of work memory on, or the refusal.
unfoldable pub sequenced : List ℕ → List ℕ → ℕ → Format → ℕ → ℕ → Result ℕ (Fault ℕ) → Outcome (List Taxon)
sequenced text work at f n to (Ok rows) = done (rows_sequential text work f n to (stored work at rows))
sequenced text work at f n to (Err e) = refused e.0 e.1

-- What is promised of a sequential matrix that was read from the tokens of two indices: work memory is as it was in front of the rows, of which there
-- are no more than tokens, all that there are to be, each known by a token in front; and whatever format has these codes, the answer means the rows
-- that it reads, or its refusal.
pub record RowsRead (text codes before after : List ℕ) (at from to taxa characters head : ℕ) (r : Result ℕ (Fault ℕ)) : Type 0 where
  pub size : length after ≡ length before
  pub kept : take at after ≡ take at before
  pub few : (n : ℕ) → r ≡ Ok n → n ≤ to
  pub count : (n : ℕ) → r ≡ Ok n → n ≡ taxa
  pub below : (n : ℕ) → r ≡ Ok n → all_below at (stored after at n)
  pub read : (f : Format) → Coded f codes → length f.symbols ≤ 74
      → sequenced text after at f characters to r ≡ sequential (record { taxa = taxa; characters = characters; format = f; head = head }) (words (range text before from to))
