-- What stored rows mean. Of a row only the index of its name's token is stored; its cells are what the words behind it give.
use Rattle.std.specs.Prelude.{ℕ, ◌+◌, ◌≤◌, length, take, drop, List, [], map}
use Rattle.block.specs.Chunk.{plain}
use Rattle.block.specs.Commands.{words}
use Rattle.block.specs.Format.{Format}
use Rattle.block.specs.Reading.{Taxon}
use Rattle.lexer.specs.Stored.{word_of, range}
use Rattle.lexer.specs.Words.{spaced}
use Rattle.matrix.specs.Taken.{row_taken}

-- The name that a word is.
unfoldable pub name_at : List ℕ → List ℕ → ℕ → List ℕ
name_at text work s = spaced (word_of text work s).token.text

-- The row whose name is a word, with so many cells from the words behind it, up to the end of the matrix.
unfoldable pub row_at : List ℕ → List ℕ → Format → ℕ → ℕ → ℕ → Taxon
row_at text work f n to s = record { name = name_at text work s; cells = row_taken f n (plain []) (words (range text work (s + 1) to)) }

-- So many numbers that stand in work memory from an index on.
unfoldable pub stored : List ℕ → ℕ → ℕ → List ℕ
stored work at n = take n (drop at work)

-- What reading rows asks of a text and of work memory: the rows are stored behind the tokens, with room for one a token, and both are short enough that
-- no count of cells overflows.
pub record RowsRoom (text work : List ℕ) (at to : ℕ) : Type 0 where
  pub apart : to ≤ at
  pub behind : at + to ≤ length work
  pub tokens : to ≤ 1048576
  pub bytes : length text ≤ 1048576

-- The names that stored indices name, and the rows of a sequential matrix.
unfoldable pub names_stored : List ℕ → List ℕ → List ℕ → List (List ℕ)
names_stored text work starts = map (name_at text work) starts

unfoldable pub rows_sequential : List ℕ → List ℕ → Format → ℕ → ℕ → List ℕ → List Taxon
rows_sequential text work f n to starts = map (row_at text work f n to) starts
