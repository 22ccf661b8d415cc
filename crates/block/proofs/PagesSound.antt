-- Interleaved pages: their rows keep the names of the first page, and their cells are fine. Assumes nothing.
use Prim.Native.Nat.{ℕ, suc}
use Rattle.block.proofs.ChunkSound.{Fine, RowFine, chunk-fine, row-end-fine}
use Rattle.block.proofs.FormatSound.{Good}
use Rattle.block.proofs.NamesSound.{Names, Named, named_none, named-one, named-left, named-right, need-named}
use Rattle.block.proofs.OutcomeLaws.{then-done, pick-else, pick-when, refused-done, done_inj, All, all_append, all_one, all_left, all_right, Any, all_any, fold-keeps}
use Rattle.block.proofs.RowsSound.{Whole, Matrix, names-one}
use Rattle.block.specs.Cell.{Cell}
use Rattle.block.specs.Chunk.{plain, chunk, row_end}
use Rattle.block.specs.Commands.{newline}
use Rattle.block.specs.Format.{Format}
use Rattle.block.specs.Interleaved.{Line, Page, first_page, new_taxon, old_taxon, line_taxon, behind, turned, with_row, fits, line_cells, line_row, line_turn, pages, all_long, interleaved_end, lines, lines_from, interleaved}
use Rattle.block.specs.Names.{known}
use Rattle.block.specs.Outcome.{done, then, fold, need}
use Rattle.block.specs.Reading.{Taxon}
use Rattle.block.specs.Sequential.{Shape, names}
use Rattle.lexer.proofs.Basics.{and_left, and_right, by-test}
use Rattle.lexer.specs.Base.{pick, is_empty, alike}
use Rattle.lexer.specs.Words.{Numbered, label}
use Rattle.lexer.specs.declared.refusal.Refusal.{Refusal}
use borrow.Author.Tests.{eqb-true}
use lib.Dec.{eqb, ltb}
use lib.ListN.{length}
use mathlib.Core.Bool.{Bool, true, false, ◌&&◌, false≢true}
use mathlib.Core.List.{List, [], ◌∷◌, ◌++◌, append_assoc, append-nil, cons≢nil}
use mathlib.Core.Path.{◌≡◌, refl, ap}

-- A row whose cells are fine, however many they are.
abbrev FineRow : Format → Taxon → Type 0
FineRow f t = All (Fine f) t.cells

-- Rows above and below the place on a page: together their names differ, and something holds of each. On the first page none are below.
record Paged (N : List ℕ → Type 0) (f : Format) (first : Bool) (above below : List Taxon) : Type 0 where
  alone : first ≡ true → below ≡ []
  named : Named N (names above ++ names below)
  fine : All (FineRow f) (above ++ below)

abbrev PagedAt : (List ℕ → Type 0) → Format → Page → Type 0
PagedAt N f p = Paged N f p.first p.above p.below

module _ (N : List ℕ → Type 0) (Q : Numbered → Type 0) (name : Names Q N) (sh : Shape) (good : Good sh.format) where
  -- a whole page is turned: its rows are those below on the next
  turned-paged : (p : Page) → PagedAt N sh.format p → PagedAt N sh.format (turned sh p)
  unfolding turned pick names
  turned-paged p h = by-test (eqb (length p.above) sh.taxa) (λ e. rw e next) (λ e. rw e h)
    where
      next : Paged N sh.format false [] p.above
      next =
          record {
            alone = λ e. absurd (false≢true e);
            named = named-left N (names p.above) (names p.below) h.named;
            fine = all_left (FineRow sh.format) p.above p.below h.fine;
          }

  -- one row more on the first page
  first-row : (above : List Taxon) (t : Taxon) → Paged N sh.format true above [] → FineRow sh.format t → Named N (names above ++ (t.name ∷ []))
      → Paged N sh.format true (above ++ (t ∷ [])) []
  unfolding names
  first-row above t h c n =
      let p = all_left (FineRow sh.format) above [] h.fine in
      record {
        alone = λ e. refl;
        named = rw (append-nil (names (above ++ (t ∷ []))), names-one above t) n;
        fine = rw (append-nil (above ++ (t ∷ []))) (all_one (FineRow sh.format) above t p c);
      }

  -- one row more on a later page, in the place of the row that stood there
  later-row : (above below : List Taxon) (old new : Taxon) → Paged N sh.format false above (old ∷ below) → old.name ≡ new.name
      → FineRow sh.format new → Paged N sh.format false (above ++ (new ∷ [])) below
  unfolding names
  later-row above below old new h e c =
      let p = all_left (FineRow sh.format) above (old ∷ below) h.fine in
      let q = (all_right (FineRow sh.format) above (old ∷ below) h.fine).1 in
      record {
        alone = λ f. absurd (false≢true f);
        named = rw (names-one above new, append_assoc, ← e) h.named;
        fine = all_append (FineRow sh.format) (above ++ (new ∷ [])) below (all_one (FineRow sh.format) above new p c) q;
      }

  -- The page with a line's row: the taxon of the line with its new cells behind the old.
  row-paged : (p : Page) (i : ℕ) (n : List ℕ) (t : Taxon) (cells : List Cell) → PagedAt N sh.format p → N n → line_taxon p i n ≡ done t → All (Fine sh.format) cells → PagedAt N sh.format (with_row sh p (record { name = t.name; cells = t.cells ++ cells }) (length cells))
  unfolding with_row line_taxon new_taxon old_taxon behind pick names
  row-paged p i n t cells h s e c = turned-paged _ (go p.first p.above p.below h e)
    where
      new : Taxon
      new = record { name = t.name; cells = t.cells ++ cells }

      go : (first : Bool) (above below : List Taxon) → Paged N sh.format first above below
          → pick first (new_taxon above i n) (old_taxon below i n) ≡ done t → Paged N sh.format first (above ++ (new ∷ [])) (behind below)
      go true above [] h e =
          let k = pick-else (known n (names above)) Refusal.TaxonTwice i (done (record { name = n; cells = [] })) t e in
          let is : record { name = n; cells = [] } ≡ t = done_inj k.1 in
          let named = named-one N (names above) n (named-left N (names above) [] h.named) s k.0 in
          first-row above new h (all_append (Fine sh.format) t.cells cells (rw (← is) tt) c) (rw (← is) named)
      go true above (b ∷ below) h e = absurd (cons≢nil (h.alone refl))
      go false above [] h e = refused-done Refusal.Row i t e
      go false above (b ∷ below) h e =
          let k = pick-when (alike n b.name) Refusal.Row i (done b) t e in
          let is : b ≡ t = done_inj k.1 in
          let old = (all_right (FineRow sh.format) above (b ∷ below) h.fine).0 in
          later-row above below b new h (ap (λ x. x.name) is) (all_append (Fine sh.format) t.cells cells (rw (← is) old) c)

  line-paged : (p : Page) (l : Line) (left : ℕ) (q : Page) → PagedAt N sh.format p → Q l.first → line_turn sh p l left ≡ done q → PagedAt N sh.format q
  unfolding line_turn line_row line_cells
  line-paged p l left q h c e =
      let start = pick-else (is_empty p.above && ltb (suc left) sh.taxa) Refusal.Count l.first.index (line_row sh p l) q e in
      let n = then-done (need (label l.first) Refusal.NotName l.first.index) _ q start.1 in
      let t = then-done (line_taxon p l.first.index n.0) _ q n.2 in
      let cells = then-done (then (fold (chunk sh.format) (plain []) l.rest) row_end) _ q t.2 in
      let row = then-done (fold (chunk sh.format) (plain []) l.rest) row_end cells.0 cells.1 in
      let fine = fold-keeps (RowFine sh.format) Any (chunk sh.format) (λ s w r p a. chunk-fine sh.format good s w r p) (plain []) l.rest row.0 tt (all_any l.rest) row.1 in
      let good_cells = row-end-fine sh.format good row.0 cells.0 fine row.2 in
      let fit = pick-when (fits sh p t.0 cells.0) Refusal.Row l.first.index _ q cells.2 in
      rw (← done_inj fit.1) (row-paged p l.first.index n.0 t.0 cells.0 h (need-named N Q name l.first l.first.index n.0 c n.1) t.1 good_cells)

  abbrev LineOf : Line → Type 0
  LineOf l = Q l.first

  pages-paged : (p : Page) (ls : List Line) (q : Page) → PagedAt N sh.format p → All LineOf ls → pages sh p ls ≡ done q → PagedAt N sh.format q
  unfolding pages
  pages-paged p [] q h c e = rw (← done_inj e) h
  pages-paged p (l ∷ ls) q h c e =
      let n = then-done (line_turn sh p l (length ls)) (λ r. pages sh r ls) q e in
      pages-paged n.0 ls q (line-paged p l (length ls) n.0 h c.0 n.1) c.1 n.2

  -- Rows of one length whose cells are fine are whole.
  long-whole : (n : ℕ) (rows : List Taxon) → all_long n rows ≡ true → All (FineRow sh.format) rows → All (Whole sh.format n) rows
  unfolding all_long
  long-whole n [] h p = tt
  long-whole n (t ∷ r) h p =
      (record { long = eqb-true (length t.cells) n (and_left (eqb (length t.cells) n) (all_long n r) h); fine = p.0 }, long-whole n r (and_right (eqb (length t.cells) n) (all_long n r) h) p.1)

  pages-matrix : (p : Page) (rows : List Taxon) → PagedAt N sh.format p → interleaved_end sh p ≡ done rows → Matrix N sh rows
  unfolding interleaved_end
  pages-matrix p rows h e =
      let counted = eqb (length p.below) sh.taxa in
      let long = all_long sh.characters p.below in
      let k = pick-when (counted && long) Refusal.Count sh.head (done p.below) rows e in
      rw (← done_inj k.1)
      (record {
        rowed =
            record {
              named = named-right N (names p.above) (names p.below) h.named;
              whole = long-whole sh.characters p.below (and_right counted long k.0) (all_right (FineRow sh.format) p.above p.below h.fine);
            };
        counted = eqb-true (length p.below) sh.taxa (and_left counted long k.0);
      })

  lines_of : (begun : Bool) (ws : List Numbered) → All Q ws → All LineOf (lines_from begun ws)
  unfolding lines_from pick
  lines_of begun [] c = tt
  lines_of false (w ∷ r) c = by-test (newline w) (λ e. rw e (lines_of false r c.1)) (λ e. rw e (c.0, lines_of true r c.1))
  lines_of true (w ∷ r) c = by-test (newline w) (λ e. rw e (lines_of false r c.1)) (λ e. rw e (lines_of true r c.1))

  pub interleaved-matrix : (ws : List Numbered) (rows : List Taxon) → All Q ws → interleaved sh ws ≡ done rows → Matrix N sh rows
  unfolding interleaved lines first_page names
  interleaved-matrix ws rows c h =
      let p = then-done (pages sh first_page (lines ws)) (interleaved_end sh) rows h in
      pages-matrix p.0 rows (pages-paged first_page (lines ws) p.0 (record { alone = λ e. refl; named = named_none N; fine = tt }) (lines_of false ws c) p.1) p.2
