-- What the stored lines of an interleaved matrix mean. Of a line only the index of its first token, its name, is stored; its cells are what the
-- tokens behind it give, up to the next newline. And how the code judges a line: by the shape of its page, and by the names that are stored.
use Rattle.std.specs.Option.{unwrap_or}
use Rattle.std.specs.Prelude.{Some, None, ℕ, ◌+◌, ◌-◌, ◌≤◌, ◌<◌, ltb, eqb, length, take, get_or, Bool, true, false, ◌&&◌, ◌||◌, not, List, [], ◌∷◌, ◌++◌, ◌≡◌, Ok, Err, Result, ⊤}
use Rattle.block.specs.Chunk.{plain}
use Rattle.block.specs.Codes.{Coded}
use Rattle.block.specs.Commands.{newline}
use Rattle.block.specs.Format.{Format}
use Rattle.block.specs.Interleaved.{Page, first_page, lines, lines_from, to_newline, with_row, interleaved}
use Rattle.block.specs.Judged.{judged}
use Rattle.block.specs.Names.{known}
use Rattle.block.specs.Outcome.{Outcome, done, refused, then, fold}
use Rattle.block.specs.Reading.{Taxon}
use Rattle.block.specs.Sequential.{names}
use Rattle.lexer.specs.Base.{pick, alike, given}
use Rattle.lexer.specs.Stored.{word_of, range}
use Rattle.lexer.specs.Words.{Numbered, label}
use Rattle.lexer.specs.declared.refusal.Refusal.{Refusal}
use Rattle.matrix.specs.Lines.{name_at, stored, names_stored}
use Rattle.matrix.specs.OrderHeld.{all_below}
use Rattle.matrix.specs.RowIndex.{Indexed}
use Rattle.matrix.specs.RowShape.{chunk_shape}
use Rattle.matrix.specs.Taken.{line_taken}
use Rattle.matrix.specs.declared.interleaved.Pages.{Pages}
use Rattle.matrix.specs.declared.matrix.Chunk.{Chunk}
use Rattle.slots.specs.Filling.{TableSound}
use Rattle.slots.specs.declared.Table.{Table}
use Rattle.lexer.specs.declared.Fault.{Fault}
use Rattle.lexer.specs.Refusals.{fault}

-- The line that begins with the token of an index, up to the end of the matrix at most: its name, and its cells.
unfoldable pub line_at : List ℕ → List ℕ → Format → ℕ → ℕ → Taxon
line_at text work f to s = record { name = name_at text work s; cells = line_taken f (plain []) (to_newline (range text work (s + 1) to)) }

-- The row that a line goes on with: on the first page a new one of its name, later the one that stands there.
unfoldable pub first_of : List Taxon → Taxon → Taxon
first_of [] t = t
first_of (u ∷ r) t = u

unfoldable pub row_on : Page → List ℕ → Taxon
row_on p n = let new : Taxon = record { name = n; cells = [] } in pick p.first new (first_of p.below new)

-- A page with one line more.
unfoldable pub with_line : Format → ℕ → Page → Taxon → Page
with_line f taxa p l =
    let t = row_on p l.name in
    with_row (record { taxa = taxa; characters = 0; format = f; head = 0 }) p (record { name = t.name; cells = t.cells ++ l.cells }) (length l.cells)

-- The page behind stored lines, from a page on.
unfoldable pub page_held : List ℕ → List ℕ → Format → ℕ → ℕ → Page → List ℕ → Page
page_held text work f taxa to p [] = p
page_held text work f taxa to p (s ∷ r) = page_held text work f taxa to (with_line f taxa p (line_at text work f to s)) r

-- The rows that stored lines mean: those of the pages that are whole.
unfoldable pub pages_held : List ℕ → List ℕ → Format → ℕ → ℕ → List ℕ → List Taxon
pages_held text work f taxa to starts = (page_held text work f taxa to first_page starts).below

-- What the code's answer means: the rows of the lines that are stored, so many from an index of work memory on, or the refusal.
unfoldable pub paged : List ℕ → List ℕ → ℕ → Format → ℕ → ℕ → Result ℕ (Fault ℕ) → Outcome (List Taxon)
paged text work at f taxa to (Ok n) = done (pages_held text work f taxa to (stored work at n))
paged text work at f taxa to (Err e) = refused e.0 e.1

-- An index from which on the same lines begin, the first of them there.
pub record LineBegins (text work : List ℕ) (i to r : ℕ) : Type 0 where
  pub ahead : i ≤ r
  pub lines : lines_from false (range text work i to) ≡ lines_from false (range text work r to)
  pub here : r < to → newline (word_of text work r) ≡ false

-- An index at which a line that has begun is over.
pub record LineEnds (text work : List ℕ) (i to r : ℕ) : Type 0 where
  pub ahead : i ≤ r
  pub lines : lines_from true (range text work i to) ≡ lines_from false (range text work r to)

-- How many cells a row has whose tokens have ended; a set must not be open.
unfoldable pub end_count : Chunk → Outcome ℕ
end_count (Chunk.Plain n) = done n
end_count (Chunk.Within n k mark empty) = refused Refusal.StateSet mark

-- How many cells tokens give behind a row, by their codes.
unfoldable pub count_from : List ℕ → Chunk → List Numbered → Outcome ℕ
count_from codes row ws = then (fold (chunk_shape codes) row ws) end_count

-- The name of a line: on the first page it must be new, later that of the row that stands there.
unfoldable pub name_judged : Bool → Bool → Bool → Numbered → Result ⊤ (Fault ℕ)
name_judged first known same w =
    let new = pick known (Err (fault Refusal.TaxonTwice w.index)) (Ok tt) in
    let old = pick same (Ok tt) (Err (fault Refusal.Row w.index)) in
    pick (given (label w)) (pick first new old) (Err (fault Refusal.NotName w.index))

-- That of the token of an index, behind so many stored lines.
unfoldable pub line_name : List ℕ → List ℕ → ℕ → ℕ → Pages → ℕ → Result ⊤ (Fault ℕ)
line_name text work at rows p i =
    let n = name_at text work i in
    name_judged p.first (known n (names_stored text work (stored work at rows))) (alike n (name_at text work (get_or work (at + p.row) 0))) (word_of text work i)

-- So many cells do not fit on the page: there are none, or not as many as in the lines before, or too many with those of earlier pages.
unfoldable pub misfit : ℕ → Pages → ℕ → Bool
misfit characters p n = eqb n 0 || not (eqb (unwrap_or p.width n) n) || ltb (characters - p.earlier) n

-- The page with one row more, by its shape; a whole page is turned.
unfoldable pub page_grown : ℕ → Pages → ℕ → Pages
page_grown taxa p n =
    let next : Pages = record { first = false; row = 0; earlier = p.earlier + n; width = None } in
    let same : Pages = record { first = p.first; row = p.row + 1; earlier = p.earlier; width = Some n } in
    pick (eqb (p.row + 1) taxa) next same

unfoldable pub line_grown : ℕ → ℕ → Pages → ℕ → ℕ → Outcome Pages
line_grown taxa characters p i n = pick (misfit characters p n) (refused Refusal.Row i) (done (page_grown taxa p n))

-- Is the page too short, at its first line?
unfoldable pub page_short : List ℕ → List ℕ → ℕ → Pages → ℕ → ℕ → Bool
page_short text work taxa p i to = eqb p.row 0 && ltb (length (lines_from false (range text work i to))) taxa

-- What is asked for a line to be judged behind so many stored lines, those of its page among them: on the first page a table has them.
pub record LineRoom (text work : List ℕ) (at rows to characters : ℕ) (p : Pages) (i : ℕ) (t : Table) : Type 0 where
  pub stored : at + rows ≤ length work
  pub row : p.row ≤ rows
  pub earlier : p.earlier ≤ characters
  pub below : i < to
  pub lines : rows ≤ 1048576
  pub tokens : to ≤ 1048576
  pub bytes : length text ≤ 1048576
  pub sound : TableSound t
  pub indexed : p.first ≡ true → Indexed text work at rows t

-- The line that begins with the token of an index, behind so many stored lines.
unfoldable pub line_shape : List ℕ → List ℕ → List ℕ → ℕ → ℕ → ℕ → ℕ → Pages → ℕ → ℕ → Outcome Pages
line_shape text work codes at rows taxa characters p i to =
    pick (page_short text work taxa p i to) (refused Refusal.Count i)
    (then (judged i (line_name text work at rows p i)) (λ s.
    then (count_from codes (Chunk.Plain 0) (to_newline (range text work (s + 1) to))) (λ n.
    line_grown taxa characters p s n)))

-- The end of an interleaved matrix: pages must be whole, and its rows, of which there are to be so many, as long as they are to be.
unfoldable pub pages_end : ℕ → ℕ → ℕ → ℕ → Pages → Result ℕ (Fault ℕ)
pages_end taxa characters head rows p =
    pick (pick p.first (eqb taxa 0) (eqb p.row 0 && eqb p.earlier characters)) (Ok rows) (Err (fault Refusal.Count head))

-- What is promised of an interleaved matrix that was read from the tokens of two indices: work memory is as it was in front of the lines, of which there
-- are no more than tokens, all that begin in these, each known by a token in front; and whatever format has these codes, the answer means the rows that
-- it reads, or its refusal, and the first lines, one a row, have the names of the rows.
pub record PagesRead (text codes before after : List ℕ) (at from to taxa characters head : ℕ) (r : Result ℕ (Fault ℕ)) : Type 0 where
  pub size : length after ≡ length before
  pub kept : take at after ≡ take at before
  pub few : (n : ℕ) → r ≡ Ok n → n ≤ to
  pub count : (n : ℕ) → r ≡ Ok n → n ≡ length (lines (range text before from to))
  pub below : (n : ℕ) → r ≡ Ok n → all_below at (stored after at n)
  pub enough : (f : Format) → Coded f codes → length f.symbols ≤ 74 → (n : ℕ) → r ≡ Ok n → taxa ≤ n
  pub named : (f : Format) → Coded f codes → length f.symbols ≤ 74 → (n : ℕ) → r ≡ Ok n
      → names (pages_held text after f taxa to (stored after at n)) ≡ names_stored text after (stored after at taxa)
  pub read : (f : Format) → Coded f codes → length f.symbols ≤ 74
      → paged text after at f taxa to r ≡ interleaved (record { taxa = taxa; characters = characters; format = f; head = head }) (range text before from to)
