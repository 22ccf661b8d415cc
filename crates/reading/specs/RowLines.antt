-- The lines of a row: how many rows lines make, which line is the first of a row, and the cells of a row's lines. And what is promised of putting
-- them: the format of a matrix is known by its codes.
use Rattle.std.specs.Prelude.{ℕ, zero, suc, ◌+◌, ◌-◌, ◌*◌, ◌%◌, ◌≤◌, ◌<◌, ltb, length, get_or, take, Bool, false, ◌&&◌, List, [], ◌++◌, ◌≡◌, Some, None, Option}
use Rattle.block.specs.Cell.{Cell}
use Rattle.block.specs.Codes.{Coded}
use Rattle.block.specs.Commands.{words}
use Rattle.block.specs.Format.{Format}
use Rattle.commands.specs.MatrixHeld.{format_held}
use Rattle.commands.specs.declared.state.Held.{Held}
use Rattle.emit.specs.Puts.{Puts}
use Rattle.lexer.specs.Base.{pick}
use Rattle.lexer.specs.Stored.{range}
use Rattle.matrix.specs.Lines.{stored}
use Rattle.matrix.specs.PagesHeld.{line_at}
use Rattle.reading.specs.Pieces.{spell_on}
use Rattle.block.specs.declared.format_options.Options.{Options}

-- How many rows so many lines make. Sequential, each is a row. Interleaved, the rows are those of whole pages, but for those that lines behind the
-- last whole page go on with.
unfoldable pub row_count : Bool → ℕ → ℕ → ℕ
row_count interleave lines taxa = pick interleave (pick (ltb lines taxa) 0 (taxa - lines % taxa)) lines

-- The first line of a row.
unfoldable pub first_line : Bool → ℕ → ℕ → ℕ → ℕ
first_line interleave lines taxa r = pick (interleave && ltb 0 taxa) (lines % taxa + r) r

-- How many taxa a matrix that is held has: as many as rows or, under declared names, as many as there are of these, up to so many.
unfoldable pub names_count : List ℕ → List ℕ → ℕ → ℕ → Option (ℕ × ℕ) → ℕ
names_count text front rows taxa None = rows
names_count text front rows taxa (Some (from, to)) = let count = length (words (range text front from to)) in pick (ltb taxa count) taxa count

unfoldable pub taxa_count : List ℕ → List ℕ → Held → Bool → ℕ
taxa_count text front h interleave = names_count text front (row_count interleave h.lines h.taxa) h.taxa h.names

-- The cells of one line on each of so many pages, from the first page on.
unfoldable pub column : (ℕ → List Cell) → ℕ → ℕ → ℕ → List Cell
column cells taxa first zero = []
column cells taxa first (suc q) = column cells taxa first q ++ cells (q * taxa + first)

-- The cells of the line with a number, by the stored indices of the lines' first tokens.
unfoldable pub cells_on : List ℕ → List ℕ → Format → ℕ → List ℕ → ℕ → List Cell
cells_on text front f to starts j = (line_at text front f to (get_or starts j 0)).cells

-- The format of a matrix has these codes, no more symbols than the code's format can hold, and this layout.
pub record FormatTold (text front codes : List ℕ) (style : Option Options) (interleave : Bool) : Type 0 where
  pub coded : Coded (format_held text front style) codes
  pub few : length (format_held text front style).symbols ≤ 74
  pub layout : (format_held text front style).interleave ≡ interleave

-- A buffer keeps its length, and whatever format has these codes, its piece is put.
pub record CodedPuts (codes before : List ℕ) (n : ℕ) (piece : Format → List ℕ → List ℕ) (after : List ℕ) (next : ℕ) : Type 0 where
  pub kept : length after ≡ length before
  pub put : (f : Format) → Coded f codes → length f.symbols ≤ 74 → Puts before n (piece f) after next

-- A buffer keeps its length, and the cells of a row of pages are put, those of its line on each page.
pub record PagesPut (text work codes : List ℕ) (count lines taxa to first : ℕ) (before : List ℕ) (n : ℕ) (after : List ℕ) (next : ℕ) : Type 0 where
  pub kept : length after ≡ length before
  pub put : (f : Format) → Coded f codes → length f.symbols ≤ 74 → (pages left : ℕ) → lines ≡ pages * taxa + left → left ≤ first → first < taxa
      → Puts before n (spell_on false (column (cells_on text (take count work) f to (stored work count lines)) taxa first pages)) after next

-- A buffer keeps its length, and where these are the codes and the layout of a matrix that is held, the piece is put.
pub record ToldPuts (text work codes : List ℕ) (count : ℕ) (h : Held) (interleave : Bool) (before : List ℕ) (n : ℕ) (piece : List ℕ → List ℕ) (after : List ℕ) (next : ℕ) : Type 0 where
  pub kept : length after ≡ length before
  pub put : FormatTold text (take count work) codes h.style interleave → Puts before n piece after next
