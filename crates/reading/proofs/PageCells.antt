-- The rows of whole pages: each has the name of its first line, and the cells of its lines, one a page. Assumes nothing.
use Prim.Native.Nat.{ℕ, zero, suc, ◌+◌, ◌-◌, ◌*◌, ◌%◌, ◌≤◌, ◌<◌}
use Rattle.block.specs.Cell.{Cell}
use Rattle.block.specs.Format.{Format}
use Rattle.block.specs.Interleaved.{Page, behind, first_page, turned, with_row}
use Rattle.block.specs.Reading.{Taxon}
use Rattle.lexer.specs.Base.{pick}
use Rattle.matrix.specs.Lines.{name_at}
use Rattle.matrix.specs.PagesHeld.{first_of, line_at, page_held, pages_held, row_on, with_line}
use Rattle.reading.specs.RowLines.{cells_on, column}
use borrow.Author.Tests.{eq-eqb, ne_eqb}
use lib.Dec.{eqb}
use lib.ListN.{length, get_or, drop, length-append}
use mathlib.Core.Bool.{Bool, true, false, false≢true}
use mathlib.Core.List.{List, [], ◌∷◌, ◌++◌}
use mathlib.Core.Path.{◌≡◌, refl, sym, ap, ◌∙◌}
use native.Mathlib.Nat.{add-zero, mod-eq_of_lt, mul-add-mod_self_right, suc-mul, zero-add, zero-mul}
use native.Mathlib.Omega.{arith}

-- What a list has at an index, and behind it, by what is left from there on.
is_some : List ℕ → Bool
is_some [] = false
is_some (a ∷ l) = true

left-head : (l : List ℕ) (i s : ℕ) (r : List ℕ) → drop i l ≡ s ∷ r → (get_or l i 0 ≡ s) × (drop (suc i) l ≡ r)
unfolding is_some
left-head [] zero s r e = absurd (false≢true (ap is_some e))
left-head [] (suc i) s r e = absurd (false≢true (ap is_some e))
left-head (a ∷ l) zero s r e = (ap (λ x. get_or x 0 0) e, ap (drop 1) e)
left-head (a ∷ l) (suc i) s r e = left-head l i s r e

-- Rows of so many pages, whose lines have these names and cells.
module _ (name : ℕ → List ℕ) (cells : ℕ → List Cell) (taxa : ℕ) where
  abbrev pub row_paged : ℕ → ℕ → Taxon
  row_paged q a = record { name = name a; cells = column cells taxa a q }

  unfoldable pub rows_paged : ℕ → ℕ → ℕ → List Taxon
  rows_paged q a zero = []
  rows_paged q a (suc n) = row_paged q a ∷ rows_paged q (suc a) n

  pub rows-length : (q a n : ℕ) → length (rows_paged q a n) ≡ n
  unfolding rows_paged
  rows-length q a zero = refl
  rows-length q a (suc n) = ap suc (rows-length q (suc a) n)

  pub rows_at : (q a n r : ℕ) (d : Taxon) → r < n → get_or (rows_paged q a n) r d ≡ row_paged q (a + r)
  unfolding rows_paged
  rows_at q a zero r d h = absurd (omega arith)
  rows_at q a (suc n) zero d h = ap (row_paged q) (sym (add-zero a))
  rows_at q a (suc n) (suc r) d h = rows_at q (suc a) n r d (omega arith) ∙ ap (row_paged q) (omega arith)

  rows_snoc : (q a n : ℕ) → rows_paged q a (suc n) ≡ rows_paged q a n ++ (row_paged q (a + n) ∷ [])
  unfolding rows_paged
  rows_snoc q a zero = ap (λ k. row_paged q k ∷ []) (sym (add-zero a))
  rows_snoc q a (suc n) =
      let same : suc a + n ≡ a + suc n = omega arith in
      ap (λ l. row_paged q a ∷ l) (rows_snoc q (suc a) n ∙ ap (λ k. rows_paged q (suc a) n ++ (row_paged q k ∷ [])) same)

  -- Without a whole page there is none.
  unfoldable pub whole : ℕ → ℕ → ℕ → List Taxon
  whole zero m n = []
  whole (suc q) m n = rows_paged (suc q) m n

  none : ℕ → Bool
  none zero = true
  none (suc q) = false

  -- A page behind so many whole pages and so many lines, with so many still to come.
  record Paging (q m left : ℕ) (p : Page) : Type 0 where
    first : p.first ≡ none q
    above : p.above ≡ rows_paged (suc q) 0 m
    below : p.below ≡ whole q m left

  module _ (m left : ℕ) (p : Page) where
    row-on : (q : ℕ) → Paging q m (suc left) p → (n : List ℕ) → n ≡ name (q * taxa + m) → row_on p n ≡ row_paged q m
    unfolding row_on pick first_of whole rows_paged column none
    row-on zero k n e = rw (k.first, e, zero-mul taxa, zero-add m)
    row-on (suc q) k n e = rw (k.first, k.below)

    behind-row : (q : ℕ) → Paging q m (suc left) p → behind p.below ≡ whole q (suc m) left
    unfolding behind whole rows_paged
    behind-row zero k = rw k.below
    behind-row (suc q) k = rw k.below

  module _ (f : Format) (q m left : ℕ) (p : Page) (k : Paging q m (suc left) p) (l : Taxon) (named : l.name ≡ name (q * taxa + m)) (celled : l.cells ≡ cells (q * taxa + m)) where
    above_more : p.above ++ (record { name = (row_on p l.name).name; cells = (row_on p l.name).cells ++ l.cells } ∷ []) ≡ rows_paged (suc q) 0 (suc m)
    unfolding column
    above_more =
        rw (row-on m left p q k l.name named, k.above, celled)
        (sym (rows_snoc (suc q) 0 m ∙ ap (λ a. rows_paged (suc q) 0 m ++ (row_paged (suc q) a ∷ [])) (zero-add m)))

    count : length (p.above ++ (record { name = (row_on p l.name).name; cells = (row_on p l.name).cells ++ l.cells } ∷ [])) ≡ suc m
    count = ap length above_more ∙ rows-length (suc q) 0 (suc m)

    line_on : suc m < taxa → Paging q (suc m) left (with_line f taxa p l)
    unfolding with_line with_row turned pick
    line_on h =
        rw (count, ne_eqb (suc m) taxa (λ e. omega arith)) (record { first = k.first; above = above_more; below = behind-row m left p q k })

    line-turned : suc m ≡ taxa → Paging (suc q) 0 (suc m) (with_line f taxa p l)
    unfolding with_line with_row turned pick whole none rows_paged
    line-turned h = rw (count, eq-eqb (suc m) taxa h) (record { first = refl; above = refl; below = above_more })

-- The stored lines of a matrix.
module _ (text front : List ℕ) (f : Format) (taxa to : ℕ) (starts : List ℕ) where
  abbrev pub name_on : ℕ → List ℕ
  name_on j = name_at text front (get_or starts j 0)

  abbrev cells : ℕ → List Cell
  cells = cells_on text front f to starts

  record Walked (p : Page) : Type 0 where
    pages : ℕ
    over : ℕ
    left : ℕ
    count : length starts ≡ pages * taxa + over
    page : over + suc left ≡ taxa
    paging : Paging name_on cells taxa pages over (suc left) p

  module _ (i s : ℕ) (rest : List ℕ) (e : drop i starts ≡ s ∷ rest) where
    line-named : (line_at text front f to s).name ≡ name_on i
    unfolding line_at
    line-named = ap (name_at text front) (sym (left-head starts i s rest e).0)

    line-celled : (line_at text front f to s).cells ≡ cells i
    unfolding cells_on
    line-celled = ap (λ x. (line_at text front f to x).cells) (sym (left-head starts i s rest e).0)

  walk : (rest : List ℕ) (q m left : ℕ) (p : Page) → Paging name_on cells taxa q m (suc left) p → m + suc left ≡ taxa
      → length starts ≡ q * taxa + m + length rest → drop (q * taxa + m) starts ≡ rest → Walked (page_held text front f taxa to p rest)
  unfolding page_held
  walk [] q m left p k page n e = record { pages = q; over = m; left = left; count = n ∙ add-zero (q * taxa + m); page = page; paging = k }
  walk (s ∷ rest) q m zero p k page n e =
      let i = q * taxa + m in
      let whole : suc m ≡ taxa = omega arith in
      let next : suc i ≡ suc q * taxa + 0 = rw (suc-mul q taxa, ← whole) (omega arith) in
      let passed : drop (suc q * taxa + 0) starts ≡ rest = ap (λ j. drop j starts) (sym next) ∙ (left-head starts i s rest e).1 in
      let l = line_at text front f to s in
      walk rest (suc q) 0 m (with_line f taxa p l) (line-turned name_on cells taxa f q m 0 p k l (line-named i s rest e) (line-celled i s rest e) whole)
      (zero-add (suc m) ∙ whole) (n ∙ (omega arith) ∙ ap (λ j. j + length rest) next) passed
  walk (s ∷ rest) q m (suc left) p k page n e =
      let i = q * taxa + m in
      let next : suc i ≡ q * taxa + suc m = omega arith in
      let passed : drop (q * taxa + suc m) starts ≡ rest = ap (λ j. drop j starts) (sym next) ∙ (left-head starts i s rest e).1 in
      let l = line_at text front f to s in
      walk rest q (suc m) left (with_line f taxa p l) (line_on name_on cells taxa f q m (suc left) p k l (line-named i s rest e) (line-celled i s rest e) (omega arith))
      (omega arith) (n ∙ omega arith) passed

  -- So many whole pages, and the lines behind them.
  pub record WholePages : Type 0 where
    pub pages : ℕ
    pub count : length starts ≡ pages * taxa + length starts % taxa
    pub over : length starts % taxa < taxa
    pub rows : pages_held text front f taxa to starts ≡ whole name_on cells taxa pages (length starts % taxa) (taxa - length starts % taxa)

  pub whole-pages : 1 ≤ taxa → WholePages
  unfolding pages_held first_page whole none rows_paged
  whole-pages h =
      let start : Paging name_on cells taxa 0 0 (suc (taxa - 1)) first_page = record { first = refl; above = refl; below = refl } in
      let w = walk starts 0 0 (taxa - 1) first_page start (omega arith) (rw (zero-mul taxa) (omega arith)) (rw (zero-mul taxa) refl) in
      let over : length starts % taxa ≡ w.over = ap (λ n. n % taxa) w.count ∙ mul-add-mod_self_right w.pages taxa w.over ∙ mod-eq_of_lt {n = w.over} {m = taxa} (omega (arith, w.page)) in
      let left : suc w.left ≡ taxa - length starts % taxa = omega (arith, w.page, over) in
      record {
        pages = w.pages;
        count = w.count ∙ ap (λ m. w.pages * taxa + m) (sym over);
        over = omega (arith, w.page, over);
        rows = w.paging.below ∙ ap (λ n. whole name_on cells taxa w.pages w.over n) left ∙ ap (λ m. whole name_on cells taxa w.pages m (taxa - length starts % taxa)) (sym over);
      }

-- A page of no lines is never whole.
module _ (text front : List ℕ) (f : Format) (to : ℕ) where
  none-line : (p : Page) (l : Taxon) → p.below ≡ [] → (with_line f 0 p l).below ≡ []
  unfolding with_line with_row turned pick behind
  none-line p l e =
      let t : Taxon = record { name = (row_on p l.name).name; cells = (row_on p l.name).cells ++ l.cells } in
      let some : eqb (length (p.above ++ (t ∷ []))) 0 ≡ false = ne_eqb (length (p.above ++ (t ∷ []))) 0 (λ d. omega (arith, length-append p.above (t ∷ []))) in
      rw (some, e)

  none_walk : (rest : List ℕ) (p : Page) → p.below ≡ [] → (page_held text front f 0 to p rest).below ≡ []
  unfolding page_held
  none_walk [] p e = e
  none_walk (s ∷ rest) p e = let l = line_at text front f to s in none_walk rest (with_line f 0 p l) (none-line p l e)

  pub none-whole : (starts : List ℕ) → pages_held text front f 0 to starts ≡ []
  unfolding pages_held first_page
  none-whole starts = none_walk starts first_page refl
