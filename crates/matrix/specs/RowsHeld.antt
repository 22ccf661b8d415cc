-- The rows of a matrix, sequential or interleaved, that stored lines mean; and what is promised of reading them.
use Rattle.std.specs.Prelude.{ℕ, ◌+◌, ◌≤◌, length, take, List, ◌≡◌, Ok, Err, Result}
use Rattle.block.specs.Blocks.{rows}
use Rattle.block.specs.Format.{Format}
use Rattle.block.specs.Outcome.{Outcome, done, refused}
use Rattle.block.specs.Reading.{Taxon}
use Rattle.block.specs.Sequential.{names}
use Rattle.block.specs.Weights.{weights}
use Rattle.lexer.specs.Base.{pick}
use Rattle.lexer.specs.Stored.{range}
use Rattle.matrix.specs.Lines.{stored, names_stored, rows_sequential}
use Rattle.matrix.specs.OrderHeld.{all_below}
use Rattle.matrix.specs.PagesHeld.{pages_held}
use Rattle.lexer.specs.declared.Fault.{Fault}

-- The rows that lines mean, by the words of the front of work memory.
unfoldable pub rows_held : List ℕ → List ℕ → Format → ℕ → ℕ → ℕ → List ℕ → List Taxon
rows_held text front f taxa characters to starts =
    let pages = pages_held text front f taxa to starts in
    let sequence = rows_sequential text front f characters to starts in
    pick f.interleave pages sequence

-- What the code's answer means: the rows of the lines that are stored, so many from an index of work memory on, or the refusal.
unfoldable pub rows_answer : List ℕ → List ℕ → ℕ → Format → ℕ → ℕ → ℕ → Result ℕ (Fault ℕ) → Outcome (List Taxon)
rows_answer text work at f taxa characters to (Ok n) = done (rows_held text (take at work) f taxa characters to (stored work at n))
rows_answer text work at f taxa characters to (Err e) = refused e.0 e.1

-- What is promised of a matrix that was read from the tokens of two indices: work memory is as it was in front of the lines; the answer means the
-- rows that the definition reads, or its refusal; the first lines have the names of the rows; each line is known by a token; and lines and characters
-- together are no more than the words have bytes.
pub record RowsTaken (text before after : List ℕ) (at from to taxa characters head : ℕ) (f : Format) (r : Result ℕ (Fault ℕ)) : Type 0 where
  pub size : length after ≡ length before
  pub kept : take at after ≡ take at before
  pub read : rows_answer text after at f taxa characters to r ≡ rows (record { taxa = taxa; characters = characters; format = f; head = head }) (range text before from to)
  pub named : (n : ℕ) → r ≡ Ok n → names (rows_held text (take at after) f taxa characters to (stored after at n)) ≡ names_stored text after (stored after at taxa)
  pub below : (n : ℕ) → r ≡ Ok n → all_below at (stored after at taxa)
  pub few : (n : ℕ) → r ≡ Ok n → n ≤ to
  pub rows_few : (n : ℕ) → r ≡ Ok n → taxa ≤ n
  pub light : (n : ℕ) → r ≡ Ok n → 1 ≤ taxa → n + characters ≤ weights (range text before from to)
