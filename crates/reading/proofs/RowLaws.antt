-- The rows that stored lines mean, by their lines: how many there are, and of each the name and the cells. Assumes nothing.
use Prim.Native.Nat.{ℕ, zero, suc, ◌+◌, ◌-◌, ◌*◌, ◌%◌, ◌≤◌, ◌<◌}
use Rattle.block.specs.Cell.{Cell}
use Rattle.block.specs.Format.{Format}
use Rattle.block.specs.Reading.{Taxon}
use Rattle.lexer.proofs.Basics.{pick_first, pick_second}
use Rattle.lexer.specs.Base.{pick}
use Rattle.matrix.specs.Lines.{name_at, row_at, rows_sequential}
use Rattle.matrix.specs.OrderHeld.{cells_at}
use Rattle.matrix.specs.PagesHeld.{pages_held}
use Rattle.matrix.specs.RowsHeld.{rows_held}
use Rattle.reading.proofs.PageCells.{none-whole, row_paged, rows_at, rows-length, whole, whole-pages}
use Rattle.reading.specs.RowLines.{cells_on, column, first_line, row_count}
use borrow.Author.Tests.{le-ltb, lt-ltb}
use lib.Dec.{ltb}
use lib.ListN.{length, get_or, length-map}
use mathlib.Core.Bool.{Bool, true, false}
use mathlib.Core.List.{List, [], ◌∷◌, map}
use mathlib.Core.Path.{◌≡◌, refl, sym, ap, ◌∙◌}
use native.Mathlib.Nat.{suc-mul, zero-mul}
use native.Mathlib.Omega.{arith}

abbrev pub no_taxon : Taxon
no_taxon = record { name = []; cells = [] }

-- A row's cells by its number.
pub cells-at : (rows : List Taxon) (r : ℕ) → cells_at rows r ≡ (get_or rows r no_taxon).cells
unfolding cells_at
cells-at [] r = refl
cells-at (t ∷ rows) zero = refl
cells-at (t ∷ rows) (suc r) = cells-at rows r

pub cells-past : (rows : List Taxon) (r : ℕ) → length rows ≤ r → cells_at rows r ≡ []
unfolding cells_at
cells-past [] r h = refl
cells-past (t ∷ rows) zero h = absurd (omega arith)
cells-past (t ∷ rows) (suc r) h = cells-past rows r (omega arith)

map_at : {A : Type 0} (g : ℕ → A) (l : List ℕ) (r : ℕ) (d : A) → r < length l → get_or (map g l) r d ≡ g (get_or l r 0)
map_at g [] r d h = absurd (omega arith)
map_at g (s ∷ l) zero d h = refl
map_at g (s ∷ l) (suc r) d h = map_at g l r d (omega arith)

module _ (text front : List ℕ) (f : Format) (to : ℕ) (starts : List ℕ) where
  abbrev lines : ℕ
  lines = length starts

  abbrev name : ℕ → List ℕ
  name j = name_at text front (get_or starts j 0)

  abbrev cells : ℕ → List Cell
  cells = cells_on text front f to starts

  -- Interleaved rows.
  pages-counted : (taxa : ℕ) → length (pages_held text front f taxa to starts) ≡ pick (ltb lines taxa) 0 (taxa - lines % taxa)
  unfolding pick whole
  pages-counted zero = ap length (none-whole text front f to starts) ∙ sym (rw (le-ltb lines 0 (omega arith)) (omega arith))
  pages-counted (suc t) =
      let w = whole-pages text front f (suc t) to starts (omega arith) in
      ap length w.rows ∙ go w.pages w.count w.over
    where
      go : (q : ℕ) → lines ≡ q * suc t + lines % suc t → lines % suc t < suc t
          → length (whole name cells (suc t) q (lines % suc t) (suc t - lines % suc t)) ≡ pick (ltb lines (suc t)) 0 (suc t - lines % suc t)
      go zero c o = sym (rw (lt-ltb lines (suc t) (omega (arith, c, zero-mul (suc t)))) refl)
      go (suc q) c o = rows-length name cells (suc t) (suc q) (lines % suc t) (suc t - lines % suc t) ∙ sym (rw (le-ltb lines (suc t) (omega (arith, c, suc-mul q (suc t)))) refl)

  -- A row of whole pages: how many there are, and its line on each of them.
  pub record RowLines (taxa r : ℕ) : Type 0 where
    pub pages : ℕ
    pub count : lines ≡ pages * taxa + lines % taxa
    pub below : lines % taxa + r < taxa
    pub row : (d : Taxon) → get_or (pages_held text front f taxa to starts) r d ≡ row_paged name cells taxa pages (lines % taxa + r)

  pub row-lines : (taxa r : ℕ) → r < pick (ltb lines taxa) 0 (taxa - lines % taxa) → RowLines taxa r
  unfolding pick whole
  row-lines zero r h = absurd (omega (arith, (rw (le-ltb lines 0 (omega arith)) at h)))
  row-lines (suc t) r h =
      let w = whole-pages text front f (suc t) to starts (omega arith) in
      go w.pages w.count w.over w.rows
    where
      go : (q : ℕ) → lines ≡ q * suc t + lines % suc t → lines % suc t < suc t
          → pages_held text front f (suc t) to starts ≡ whole name cells (suc t) q (lines % suc t) (suc t - lines % suc t) → RowLines (suc t) r
      go zero c o e =
          let few : ltb lines (suc t) ≡ true = lt-ltb lines (suc t) (omega (arith, c, zero-mul (suc t))) in
          let none : r < 0 = rw few at h in
          absurd (omega arith)
      go (suc q) c o e =
          let many : ltb lines (suc t) ≡ false = le-ltb lines (suc t) (omega (arith, c, suc-mul q (suc t))) in
          let within : r < suc t - lines % suc t = rw many at h in
          record {
            pages = suc q;
            count = c;
            below = omega arith;
            row = λ d. rw e (rows_at name cells (suc t) (suc q) (lines % suc t) (suc t - lines % suc t) r d within);
          }

  module _ (taxa characters : ℕ) where
    abbrev rows : List Taxon
    rows = rows_held text front f taxa characters to starts

    paged : f.interleave ≡ true → rows ≡ pages_held text front f taxa to starts
    unfolding rows_held
    paged e = pick_first f.interleave _ _ e

    sequential : f.interleave ≡ false → rows ≡ map (row_at text front f characters to) starts
    unfolding rows_held rows_sequential
    sequential e = pick_second f.interleave _ _ e

    pub rows-counted : (b : Bool) → f.interleave ≡ b → length rows ≡ row_count b lines taxa
    unfolding row_count pick
    rows-counted true e = ap length (paged e) ∙ pages-counted taxa
    rows-counted false e = ap length (sequential e) ∙ length-map starts (row_at text front f characters to)

    -- The name of a row is that of its first line.
    pub row-named : (r : ℕ) (b : Bool) → f.interleave ≡ b → r < row_count b lines taxa → (get_or rows r no_taxon).name ≡ name (first_line b lines taxa r)
    unfolding row_at row_count first_line pick
    row-named r true e h =
        let w = row-lines taxa r h in
        let some : ltb 0 taxa ≡ true = lt-ltb 0 taxa (omega (arith, w.below)) in
        rw some (ap (λ l. (get_or l r no_taxon).name) (paged e) ∙ ap (λ t. t.name) (w.row no_taxon))
    row-named r false e h = ap (λ l. (get_or l r no_taxon).name) (sequential e) ∙ ap (λ t. t.name) (map_at (row_at text front f characters to) starts r no_taxon h)

    -- Its cells.
    pub sequence-cells : (r : ℕ) → f.interleave ≡ false → r < lines → cells_at rows r ≡ (row_at text front f characters to (get_or starts r 0)).cells
    sequence-cells r e h =
        cells-at rows r ∙ ap (λ l. (get_or l r no_taxon).cells) (sequential e) ∙ ap (λ t. t.cells) (map_at (row_at text front f characters to) starts r no_taxon h)

    pub pages-cells : (r : ℕ) → f.interleave ≡ true → (w : RowLines taxa r) → cells_at rows r ≡ column cells taxa (lines % taxa + r) w.pages
    pages-cells r e w = cells-at rows r ∙ ap (λ l. (get_or l r no_taxon).cells) (paged e) ∙ ap (λ t. t.cells) (w.row no_taxon)
