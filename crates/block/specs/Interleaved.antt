-- Interleaved pages: NTAX lines each, every line a name and some cells; names repeated in order; one width to a page.
use Rattle.std.specs.Prelude.{ℕ, suc, ltb, eqb, length, Bool, true, false, ◌&&◌, ◌||◌, not, List, [], ◌∷◌, ◌++◌}
use Rattle.block.specs.Cell.{Cell}
use Rattle.block.specs.Chunk.{plain, chunk, row_end}
use Rattle.block.specs.Commands.{newline}
use Rattle.block.specs.Names.{known}
use Rattle.block.specs.Outcome.{Outcome, done, refused, then, fold, need}
use Rattle.block.specs.Reading.{Taxon}
use Rattle.block.specs.Sequential.{Shape, names}
use Rattle.lexer.specs.Base.{pick, alike, is_empty}
use Rattle.lexer.specs.Words.{Numbered, label}
use Rattle.lexer.specs.declared.refusal.Refusal.{Refusal}

-- A line of the matrix that is not empty.
pub record Line : Type 0 where
  pub first : Numbered
  pub rest : List Numbered

-- The tokens up to the next newline.
unfoldable pub to_newline : List Numbered → List Numbered
to_newline [] = []
to_newline (w ∷ r) = let more = w ∷ to_newline r in pick (newline w) [] more

-- The lines that begin in these tokens, where a line has begun already or not.
unfoldable pub lines_from : Bool → List Numbered → List Line
lines_from begun [] = []
lines_from false (w ∷ r) =
    let later = lines_from false r in
    let l : Line = record { first = w; rest = to_newline r } in
    let this = l ∷ lines_from true r in
    pick (newline w) later this
lines_from true (w ∷ r) =
    let later = lines_from false r in
    let same = lines_from true r in
    pick (newline w) later same

unfoldable pub lines : List Numbered → List Line
lines ws = lines_from false ws

-- A page so far: is it the first; its rows up to here, with the cells of earlier pages; the rows of earlier pages still to come; and its
-- width, 0 before its first line.
pub record Page : Type 0 where
  pub first : Bool
  pub above : List Taxon
  pub below : List Taxon
  pub width : ℕ

unfoldable pub first_page : Page
first_page = record { first = true; above = []; below = []; width = 0 }

-- The taxon of a line, with the cells of earlier pages: on the first page a new name, later the name that stood there.
unfoldable pub new_taxon : List Taxon → ℕ → List ℕ → Outcome Taxon
new_taxon above i n = pick (known n (names above)) (refused Refusal.TaxonTwice i) (done (record { name = n; cells = [] }))

unfoldable pub old_taxon : List Taxon → ℕ → List ℕ → Outcome Taxon
old_taxon [] i n = refused Refusal.Row i
old_taxon (t ∷ r) i n = pick (alike n t.name) (done t) (refused Refusal.Row i)

unfoldable pub line_taxon : Page → ℕ → List ℕ → Outcome Taxon
line_taxon p i n = let new = new_taxon p.above i n in let old = old_taxon p.below i n in pick p.first new old

unfoldable pub behind : List Taxon → List Taxon
behind [] = []
behind (t ∷ r) = r

-- The page with one row more; a whole page is turned.
unfoldable pub turned : Shape → Page → Page
turned sh p =
    let next : Page = record { first = false; above = []; below = p.above; width = 0 } in
    pick (eqb (length p.above) sh.taxa) next p

unfoldable pub with_row : Shape → Page → Taxon → ℕ → Page
with_row sh p t width =
    turned sh (record { first = p.first; above = p.above ++ (t ∷ []); below = behind p.below; width = width })

-- A line's cells: not none, as many as the lines before on the page, and not more than NCHAR with those of earlier pages.
unfoldable pub fits : Shape → Page → Taxon → List Cell → Bool
fits sh p t cells =
    not (is_empty cells)
    && (eqb p.width 0 || eqb p.width (length cells))
    && not (ltb sh.characters (length (t.cells ++ cells)))

unfoldable pub line_cells : Shape → Page → ℕ → Taxon → List Cell → Outcome Page
line_cells sh p i t cells =
    let row : Taxon = record { name = t.name; cells = t.cells ++ cells } in
    let more = done (with_row sh p row (length cells)) in
    pick (fits sh p t cells) more (refused Refusal.Row i)

unfoldable pub line_row : Shape → Page → Line → Outcome Page
line_row sh p l =
    then (need (label l.first) Refusal.NotName l.first.index) (λ n.
    then (line_taxon p l.first.index n) (λ t.
    then (then (fold (chunk sh.format) (plain []) l.rest) row_end) (λ cells.
    line_cells sh p l.first.index t cells)))

-- A line with so many lines behind it. A page that is too short is refused at its first line.
unfoldable pub line_turn : Shape → Page → Line → ℕ → Outcome Page
line_turn sh p l left =
    let row = line_row sh p l in
    pick (is_empty p.above && ltb (suc left) sh.taxa) (refused Refusal.Count l.first.index) row

unfoldable pub pages : Shape → Page → List Line → Outcome Page
pages sh p [] = done p
pages sh p (l ∷ r) = then (line_turn sh p l (length r)) (λ q. pages sh q r)

-- Do all rows have so many cells?
unfoldable pub all_long : ℕ → List Taxon → Bool
all_long n [] = true
all_long n (t ∷ r) = let more = all_long n r in eqb (length t.cells) n && more

-- At the end there must be NTAX rows of NCHAR cells.
unfoldable pub interleaved_end : Shape → Page → Outcome (List Taxon)
interleaved_end sh p =
    pick (eqb (length p.below) sh.taxa && all_long sh.characters p.below) (done p.below) (refused Refusal.Count sh.head)

-- The rows of an interleaved matrix, in the order of its pages.
unfoldable pub interleaved : Shape → List Numbered → Outcome (List Taxon)
interleaved sh ws = then (pages sh first_page (lines ws)) (interleaved_end sh)
