-- The names of the rows of a matrix that is read differ, whatever its format is. Assumes nothing.
use Prim.Native.Nat.{ℕ, suc}
use Rattle.block.proofs.NamesSound.{Named, named_none, named-one, named-left, named-right}
use Rattle.block.proofs.OutcomeLaws.{then-done, pick-else, pick-when, pick-either, refused-done, done_inj, Any, all_any, fold-keeps}
use Rattle.block.proofs.RowsSound.{names-one}
use Rattle.block.specs.Blocks.{rows}
use Rattle.block.specs.Cell.{Cell}
use Rattle.block.specs.Chunk.{Row, plain, within, chunk, row_end}
use Rattle.block.specs.Commands.{words}
use Rattle.block.specs.Interleaved.{Line, Page, first_page, new_taxon, old_taxon, line_taxon, behind, turned, with_row, fits, line_cells, line_row, line_turn, pages, all_long, interleaved_end, lines, interleaved}
use Rattle.block.specs.Names.{known}
use Rattle.block.specs.Outcome.{done, then, fold, need}
use Rattle.block.specs.Reading.{Taxon}
use Rattle.block.specs.Sequential.{Shape, names, Sequence, between, inside, row_begins, row_grown, sequential_turn, row_open, sequential_end, sequential}
use Rattle.block.specs.Sound.{names_differ}
use Rattle.lexer.proofs.Basics.{by-test}
use Rattle.lexer.specs.Base.{pick, is_empty, alike}
use Rattle.lexer.specs.Words.{Numbered, label}
use Rattle.lexer.specs.declared.refusal.Refusal.{Refusal}
use lib.Dec.{eqb, ltb}
use lib.ListN.{length}
use mathlib.Core.Bool.{Bool, true, false, ◌&&◌, false≢true}
use mathlib.Core.List.{List, [], ◌∷◌, ◌++◌, append_assoc, append-nil, cons≢nil}
use mathlib.Core.Path.{◌≡◌, refl, ap}

-- Names of which no two are alike.
abbrev Apart : List (List ℕ) → Type 0
Apart ns = Named Any ns

-- The names of sequential rows so far, and in a row its own.
module _ (sh : Shape) where
  abbrev Sequenced : Sequence → Type 0
  Sequenced (between rows) = Apart (names rows)
  Sequenced (inside rows i n row) = Apart (names rows ++ (n ∷ []))

  sequenced : (s t : Sequence) → Sequenced s → done s ≡ done t → Sequenced t
  sequenced s t p h = rw (← done_inj h) p

  begins-sequenced : (rows : List Taxon) (w : Numbered) (t : Sequence) → Apart (names rows)
      → then (need (label w) Refusal.NotName w.index) (row_begins rows w) ≡ done t → Sequenced t
  unfolding row_begins
  begins-sequenced rows w t p h =
      let n = then-done (need (label w) Refusal.NotName w.index) (row_begins rows w) t h in
      let k = pick-else (known n.0 (names rows)) Refusal.TaxonTwice w.index (done (inside rows w.index n.0 (plain []))) t n.2 in
      sequenced (inside rows w.index n.0 (plain [])) t (named-one Any (names rows) n.0 p tt k.0) k.1

  grown-sequenced : (rows : List Taxon) (i : ℕ) (n : List ℕ) (w : Numbered) (row : Row) (t : Sequence) → Apart (names rows ++ (n ∷ []))
      → row_grown sh rows i n w row ≡ done t → Sequenced t
  unfolding row_grown pick
  grown-sequenced rows i n w (within cells k j set) t p h = sequenced (inside rows i n (within cells k j set)) t p h
  grown-sequenced rows i n w (plain cells) t p h =
      let short = pick-else (ltb sh.characters (length cells)) Refusal.Row w.index _ t h in
      by-test (eqb (length cells) sh.characters)
      (λ e. sequenced (between (rows ++ (taxon ∷ []))) t (rw (names-one rows taxon) p) (rw e at short).1)
      (λ e. sequenced (inside rows i n (plain cells)) t p (rw e at short).1)
    where
      taxon : Taxon
      taxon = record { name = n; cells = cells }

  turn-sequenced : (s : Sequence) (w : Numbered) (t : Sequence) → Sequenced s → Any w → sequential_turn sh s w ≡ done t → Sequenced t
  unfolding sequential_turn
  turn-sequenced (between rows) w t p c h = begins-sequenced rows w t p (pick-else (eqb (length rows) sh.taxa) Refusal.Count w.index _ t h).1
  turn-sequenced (inside rows i n row) w t p c h =
      let r = then-done (chunk sh.format row w) (row_grown sh rows i n w) t h in
      grown-sequenced rows i n w r.0 t p r.2

  end-apart : (s : Sequence) (out : List Taxon) → Sequenced s → sequential_end sh s ≡ done out → Apart (names out)
  unfolding sequential_end row_open
  end-apart (between rows) out p h = rw (← done_inj (pick-when (eqb (length rows) sh.taxa) Refusal.Count sh.head (done rows) out h).1) p
  end-apart (inside rows i n (plain cells)) out p h = refused-done Refusal.Row i out h
  end-apart (inside rows i n (within cells k j set)) out p h = refused-done Refusal.StateSet j out h

  sequential-apart : (ws : List Numbered) (out : List Taxon) → sequential sh ws ≡ done out → Apart (names out)
  unfolding sequential
  sequential-apart ws out h =
      let s = then-done (fold (sequential_turn sh) (between []) ws) (sequential_end sh) out h in
      end-apart s.0 out (fold-keeps Sequenced Any (sequential_turn sh) turn-sequenced (between []) ws s.0 (unfold names in named_none Any) (all_any ws) s.1) s.2

-- The names of the rows above and below the place on a page. On the first page none are below.
record Paged (first : Bool) (above below : List Taxon) : Type 0 where
  alone : first ≡ true → below ≡ []
  named : Apart (names above ++ names below)

abbrev PagedAt : Page → Type 0
PagedAt p = Paged p.first p.above p.below

module _ (sh : Shape) where
  turned-paged : (p : Page) → PagedAt p → PagedAt (turned sh p)
  unfolding turned pick names
  turned-paged p h = by-test (eqb (length p.above) sh.taxa) (λ e. rw e next) (λ e. rw e h)
    where
      next : Paged false [] p.above
      next = record { alone = λ e. absurd (false≢true e); named = named-left Any (names p.above) (names p.below) h.named }

  row-paged : (p : Page) (i : ℕ) (n : List ℕ) (t : Taxon) (cells : List Cell) → PagedAt p → line_taxon p i n ≡ done t
      → PagedAt (with_row sh p (record { name = t.name; cells = t.cells ++ cells }) (length cells))
  unfolding with_row line_taxon new_taxon old_taxon behind pick names
  row-paged p i n t cells h e = turned-paged _ (go p.first p.above p.below h e)
    where
      new : Taxon
      new = record { name = t.name; cells = t.cells ++ cells }

      go : (first : Bool) (above below : List Taxon) → Paged first above below
          → pick first (new_taxon above i n) (old_taxon below i n) ≡ done t → Paged first (above ++ (new ∷ [])) (behind below)
      go true above [] h e =
          let k = pick-else (known n (names above)) Refusal.TaxonTwice i (done (record { name = n; cells = [] })) t e in
          let is : n ≡ t.name = ap (λ x. x.name) (done_inj k.1) in
          let named = named-one Any (names above) n (named-left Any (names above) [] h.named) tt k.0 in
          record { alone = λ e. refl; named = rw (append-nil (names (above ++ (new ∷ []))), names-one above new, ← is) named }
      go true above (b ∷ below) h e = absurd (cons≢nil (h.alone refl))
      go false above [] h e = refused-done Refusal.Row i t e
      go false above (b ∷ below) h e =
          let k = pick-when (alike n b.name) Refusal.Row i (done b) t e in
          let is : b.name ≡ t.name = ap (λ x. x.name) (done_inj k.1) in
          record { alone = λ f. absurd (false≢true f); named = rw (names-one above new, append_assoc, ← is) h.named }

  line-paged : (p : Page) (l : Line) (left : ℕ) (q : Page) → PagedAt p → line_turn sh p l left ≡ done q → PagedAt q
  unfolding line_turn line_row line_cells
  line-paged p l left q h e =
      let start = pick-else (is_empty p.above && ltb (suc left) sh.taxa) Refusal.Count l.first.index (line_row sh p l) q e in
      let n = then-done (need (label l.first) Refusal.NotName l.first.index) _ q start.1 in
      let t = then-done (line_taxon p l.first.index n.0) _ q n.2 in
      let cells = then-done (then (fold (chunk sh.format) (plain []) l.rest) row_end) _ q t.2 in
      let fit = pick-when (fits sh p t.0 cells.0) Refusal.Row l.first.index _ q cells.2 in
      rw (← done_inj fit.1) (row-paged p l.first.index n.0 t.0 cells.0 h t.1)

  pages-paged : (p : Page) (ls : List Line) (q : Page) → PagedAt p → pages sh p ls ≡ done q → PagedAt q
  unfolding pages
  pages-paged p [] q h e = rw (← done_inj e) h
  pages-paged p (l ∷ ls) q h e =
      let n = then-done (line_turn sh p l (length ls)) (λ r. pages sh r ls) q e in
      pages-paged n.0 ls q (line-paged p l (length ls) n.0 h n.1) n.2

  interleaved-apart : (ws : List Numbered) (out : List Taxon) → interleaved sh ws ≡ done out → Apart (names out)
  unfolding interleaved interleaved_end first_page names
  interleaved-apart ws out h =
      let p = then-done (pages sh first_page (lines ws)) (interleaved_end sh) out h in
      let k = pick-when (eqb (length p.0.below) sh.taxa && all_long sh.characters p.0.below) Refusal.Count sh.head (done p.0.below) out p.2 in
      let q = pages-paged first_page (lines ws) p.0 (record { alone = λ e. refl; named = named_none Any }) p.1 in
      rw (← done_inj k.1) (named-right Any (names p.0.above) (names p.0.below) q.named)

  -- The rows of a matrix, in either layout.
  pub rows-differ : (raw : List Numbered) (out : List Taxon) → rows sh raw ≡ done out → names_differ (names out) ≡ true
  unfolding rows
  rows-differ raw out h =
      (pick-either sh.format.interleave (interleaved sh raw) (sequential sh (words raw)) out (interleaved-apart raw out) (sequential-apart sh (words raw) out) h).differ
