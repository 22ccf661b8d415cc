-- Interleaved rows are no more than their lines, and their cells and lines together no more than the words of the lines have bytes; so their
-- names and cells are no more either. Assumes nothing.
use Prim.Native.Nat.{ℕ, suc, ◌+◌, ◌≤◌}
use Rattle.block.proofs.OutcomeLaws.{then-done, pick-else, pick-when, refused-done, done_inj}
use Rattle.block.proofs.RowsSmall.{row-load, chunk-grows, row-end-small, named-weighs, bulk, Taken}
use Rattle.block.proofs.Weights.{total-append, fold-grows}
use Rattle.block.specs.Cell.{Cell}
use Rattle.block.specs.Chunk.{plain, chunk, row_end}
use Rattle.block.specs.Commands.{newline}
use Rattle.block.specs.Interleaved.{Line, Page, first_page, new_taxon, old_taxon, line_taxon, behind, turned, with_row, fits, line_cells, line_row, line_turn, pages, all_long, interleaved_end, lines, lines_from, to_newline, interleaved}
use Rattle.block.specs.Names.{known}
use Rattle.block.specs.Outcome.{done, then, fold, need}
use Rattle.block.specs.Reading.{Taxon}
use Rattle.block.specs.Sequential.{Shape, names}
use Rattle.block.specs.Weights.{total, weight, weights}
use Rattle.lexer.proofs.Basics.{and_left, and_right, by-test}
use Rattle.lexer.specs.Base.{pick, is_empty, alike}
use Rattle.lexer.specs.Words.{Numbered, label}
use Rattle.lexer.specs.declared.refusal.Refusal.{Refusal}
use borrow.Author.Tests.{eqb-true}
use lib.Dec.{eqb, ltb}
use lib.ListN.{length, length-append}
use mathlib.Core.Bool.{Bool, true, false, ◌&&◌}
use mathlib.Core.List.{List, [], ◌∷◌, ◌++◌}
use mathlib.Core.Path.{◌≡◌}
use native.Mathlib.Omega.{arith}

abbrev line-weight : Line → ℕ
line-weight l = weight l.first + weights l.rest

-- The words of lines are words of the matrix: where a line has begun, it holds those up to the next newline.
lines-light : (ws : List Numbered) → (total line-weight (lines_from false ws) ≤ weights ws) × (weights (to_newline ws) + total line-weight (lines_from true ws) ≤ weights ws)
unfolding lines_from to_newline pick
lines-light [] = omega arith
lines-light (w ∷ r) =
    let k = lines-light r in
    by-test (newline w) (λ e. rw e (omega arith)) (λ e. rw e (omega arith))

-- Rows count their cells; with their names they count the rows besides.
abbrev row-cells : Taxon → ℕ
row-cells t = length t.cells

abbrev pub cell-count : List Taxon → ℕ
cell-count rows = total row-cells rows

bulk-parts : (rows : List Taxon) → bulk rows ≡ length rows + cell-count rows
bulk-parts [] = omega arith
bulk-parts (t ∷ r) = let k = bulk-parts r in omega arith

behind-light : (below : List Taxon) → (cell-count (behind below) ≤ cell-count below) × (length (behind below) ≤ length below)
unfolding behind
behind-light [] = omega arith
behind-light (t ∷ r) = omega arith

-- The cells that a line's taxon has from earlier pages are those of the row that stood there.
taxon-light : (first : Bool) (above below : List Taxon) (i : ℕ) (n : List ℕ) (t : Taxon)
    → pick first (new_taxon above i n) (old_taxon below i n) ≡ done t → length t.cells + cell-count (behind below) ≤ cell-count below
unfolding new_taxon old_taxon behind pick
taxon-light true above below i n t e =
    let k = pick-else (known n (names above)) Refusal.TaxonTwice i (done (record { name = n; cells = [] })) t e in
    let b = behind-light below in
    rw (← done_inj k.1) (omega arith)
taxon-light false above [] i n t e = refused-done Refusal.Row i t e
taxon-light false above (b ∷ below) i n t e =
    let k = pick-when (alike n b.name) Refusal.Row i (done b) t e in
    rw (← done_inj k.1) (omega arith)

-- A page counts the cells of its rows above and below, and these rows.
abbrev page-load : Page → ℕ
page-load p = cell-count p.above + cell-count p.below

abbrev page-rows : Page → ℕ
page-rows p = length p.above + length p.below

-- A page that has come out of another by so many lines of so much weight: a line's name takes a byte of its weight, and its cells the rest.
record Lined (p q : Page) (count heavy : ℕ) : Type 0 where
  light : count + page-load q ≤ page-load p + heavy
  few : page-rows q ≤ page-rows p + count

-- Rows that are read from lines of so much weight: NTAX of them, with NCHAR cells each, and no more than lines.
pub record Filled (sh : Shape) (count heavy : ℕ) (rows : List Taxon) : Type 0 where
  pub light : count + cell-count rows ≤ heavy
  pub few : length rows ≤ count
  pub counted : length rows ≡ sh.taxa
  pub long : all_long sh.characters rows ≡ true

module _ (sh : Shape) where
  turned-light : (p : Page) → (page-load (turned sh p) ≤ page-load p) × (page-rows (turned sh p) ≤ page-rows p)
  unfolding turned pick
  turned-light p = by-test (eqb (length p.above) sh.taxa) (λ e. rw e (omega arith)) (λ e. rw e (omega arith))

  row-grows : (p : Page) (i : ℕ) (n : List ℕ) (t : Taxon) (cells : List Cell) → line_taxon p i n ≡ done t → Lined p (with_row sh p (record { name = t.name; cells = t.cells ++ cells }) (length cells)) 1 (suc (length cells))
  unfolding with_row line_taxon
  row-grows p i n t cells e =
      let new : Taxon = record { name = t.name; cells = t.cells ++ cells } in
      let page : Page = record { first = p.first; above = p.above ++ (new ∷ []); below = behind p.below; width = length cells } in
      let k = turned-light page in
      let l = taxon-light p.first p.above p.below i n t e in
      let b = behind-light p.below in
      let a = total-append row-cells p.above (new ∷ []) in
      let m = length-append p.above (new ∷ []) in
      let c = length-append t.cells cells in
      record { light = omega arith; few = omega arith }

  line-grows : (p : Page) (l : Line) (left : ℕ) (q : Page) → line_turn sh p l left ≡ done q → Lined p q 1 (line-weight l)
  unfolding line_turn line_row line_cells
  line-grows p l left q e =
      let start = pick-else (is_empty p.above && ltb (suc left) sh.taxa) Refusal.Count l.first.index (line_row sh p l) q e in
      let n = then-done (need (label l.first) Refusal.NotName l.first.index) _ q start.1 in
      let t = then-done (line_taxon p l.first.index n.0) _ q n.2 in
      let cells = then-done (then (fold (chunk sh.format) (plain []) l.rest) row_end) _ q t.2 in
      let row = then-done (fold (chunk sh.format) (plain []) l.rest) row_end cells.0 cells.1 in
      let fit = pick-when (fits sh p t.0 cells.0) Refusal.Row l.first.index _ q cells.2 in
      let name = named-weighs l.first l.first.index n.0 n.1 in
      let light = fold-grows row-load weight (chunk sh.format) (chunk-grows sh.format) (plain []) l.rest row.0 row.1 in
      let ends = row-end-small sh.format row.0 cells.0 row.2 in
      let more = row-grows p l.first.index n.0 t.0 cells.0 t.1 in
      rw (← done_inj fit.1) (record { light = omega arith; few = more.few })

  pages-grow : (p : Page) (ls : List Line) (q : Page) → pages sh p ls ≡ done q → Lined p q (length ls) (total line-weight ls)
  unfolding pages
  pages-grow p [] q e = rw (← done_inj e) (record { light = omega arith; few = omega arith })
  pages-grow p (l ∷ ls) q e =
      let n = then-done (line_turn sh p l (length ls)) (λ r. pages sh r ls) q e in
      let one = line-grows p l (length ls) n.0 n.1 in
      let more = pages-grow n.0 ls q n.2 in
      record { light = omega arith; few = omega arith }

  pages-filled : (p : Page) (rows : List Taxon) (count heavy : ℕ) → count + page-load p ≤ heavy → page-rows p ≤ count → interleaved_end sh p ≡ done rows → Filled sh count heavy rows
  unfolding interleaved_end
  pages-filled p rows count heavy light few e =
      let counted = eqb (length p.below) sh.taxa in
      let long = all_long sh.characters p.below in
      let k = pick-when (counted && long) Refusal.Count sh.head (done p.below) rows e in
      rw (← done_inj k.1)
      (record { light = omega arith; few = omega arith; counted = eqb-true (length p.below) sh.taxa (and_left counted long k.0); long = and_right counted long k.0 })

  pub interleaved-filled : (ws : List Numbered) (rows : List Taxon) → interleaved sh ws ≡ done rows → Filled sh (length (lines ws)) (weights ws) rows
  unfolding interleaved lines first_page
  interleaved-filled ws rows h =
      let p = then-done (pages sh first_page (lines ws)) (interleaved_end sh) rows h in
      let k = pages-grow first_page (lines ws) p.0 p.1 in
      let l = (lines-light ws).0 in
      pages-filled p.0 rows (length (lines ws)) (weights ws) (omega arith) (omega arith) p.2

  pub interleaved-taken : (ws : List Numbered) (rows : List Taxon) → interleaved sh ws ≡ done rows → Taken sh (weights ws) rows
  interleaved-taken ws rows h =
      let k = interleaved-filled ws rows h in
      let b = bulk-parts rows in
      record { light = omega arith; counted = k.counted }
