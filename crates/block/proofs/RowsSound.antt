-- Sequential rows that are read: NTAX of them, each with NCHAR cells that are fine; their names differ, and what holds of the names of words
-- holds of them. Assumes nothing.
use Prim.Native.Nat.{ℕ, suc}
use Rattle.block.proofs.ChunkSound.{Fine, RowFine, chunk-fine}
use Rattle.block.proofs.FormatSound.{Good}
use Rattle.block.proofs.NamesSound.{Names, Named, named_none, named-one, need-named}
use Rattle.block.proofs.OutcomeLaws.{then-done, pick-else, pick-when, refused-done, done_inj, All, all_one, fold-keeps}
use Rattle.block.specs.Chunk.{Row, plain, within, chunk}
use Rattle.block.specs.Format.{Format}
use Rattle.block.specs.Names.{known}
use Rattle.block.specs.Outcome.{done, then, fold, need}
use Rattle.block.specs.Reading.{Taxon}
use Rattle.block.specs.Sequential.{Shape, names, Sequence, between, inside, row_begins, row_grown, sequential_turn, row_open, sequential_end, sequential}
use Rattle.lexer.proofs.Basics.{by-test}
use Rattle.lexer.specs.Base.{pick}
use Rattle.lexer.specs.Words.{Numbered, label}
use Rattle.lexer.specs.declared.refusal.Refusal.{Refusal}
use borrow.Author.Tests.{eqb-true}
use lib.Dec.{eqb, ltb}
use lib.ListN.{length}
use mathlib.Core.Bool.{true}
use mathlib.Core.List.{List, [], ◌∷◌, ◌++◌}
use mathlib.Core.Path.{◌≡◌, refl, ap}

-- A row of so many cells that a format gives.
pub record Whole (f : Format) (n : ℕ) (t : Taxon) : Type 0 where
  pub long : length t.cells ≡ n
  pub fine : All (Fine f) t.cells

-- Rows that are whole, with names that differ and of which something holds.
pub record Rowed (N : List ℕ → Type 0) (f : Format) (n : ℕ) (rows : List Taxon) : Type 0 where
  pub named : Named N (names rows)
  pub whole : All (Whole f n) rows

pub names-append : (rows more : List Taxon) → names (rows ++ more) ≡ names rows ++ names more
unfolding names
names-append [] more = refl
names-append (r ∷ rs) more = ap (λ l. r.name ∷ l) (names-append rs more)

pub names-one : (rows : List Taxon) (t : Taxon) → names (rows ++ (t ∷ [])) ≡ names rows ++ (t.name ∷ [])
unfolding names
names-one rows t = names-append rows (t ∷ [])

pub length-names : (rows : List Taxon) → length (names rows) ≡ length rows
unfolding names
length-names [] = refl
length-names (r ∷ rs) = ap suc (length-names rs)

-- What the rows of a matrix are.
pub record Matrix (N : List ℕ → Type 0) (sh : Shape) (rows : List Taxon) : Type 0 where
  pub rowed : Rowed N sh.format sh.characters rows
  pub counted : length rows ≡ sh.taxa

module _ (N : List ℕ → Type 0) (Q : Numbered → Type 0) (name : Names Q N) (sh : Shape) (good : Good sh.format) where
  -- the rows so far, and in a row its name and its cells so far
  abbrev Sequenced : Sequence → Type 0
  Sequenced (between rows) = Rowed N sh.format sh.characters rows
  Sequenced (inside rows i n row) = Rowed N sh.format sh.characters rows × Named N (names rows ++ (n ∷ [])) × RowFine sh.format row

  sequenced : (s t : Sequence) → Sequenced s → done s ≡ done t → Sequenced t
  sequenced s t p h = rw (← done_inj h) p

  begins-sequenced : (rows : List Taxon) (w : Numbered) (t : Sequence) → Sequenced (between rows) → Q w
      → then (need (label w) Refusal.NotName w.index) (row_begins rows w) ≡ done t → Sequenced t
  unfolding row_begins
  begins-sequenced rows w t p c h =
      let n = then-done (need (label w) Refusal.NotName w.index) (row_begins rows w) t h in
      let k = pick-else (known n.0 (names rows)) Refusal.TaxonTwice w.index (done (inside rows w.index n.0 (plain []))) t n.2 in
      sequenced (inside rows w.index n.0 (plain [])) t (p, named-one N (names rows) n.0 p.named (need-named N Q name w w.index n.0 c n.1) k.0, tt) k.1

  grown-sequenced : (rows : List Taxon) (i : ℕ) (n : List ℕ) (w : Numbered) (row : Row) (t : Sequence) → Sequenced (inside rows i n row)
      → row_grown sh rows i n w row ≡ done t → Sequenced t
  unfolding row_grown pick
  grown-sequenced rows i n w (within cells k j set) t p h = sequenced (inside rows i n (within cells k j set)) t p h
  grown-sequenced rows i n w (plain cells) t p h =
      let short = pick-else (ltb sh.characters (length cells)) Refusal.Row w.index _ t h in
      by-test (eqb (length cells) sh.characters) (λ e. full e (rw e at short).1) (λ e. sequenced (inside rows i n (plain cells)) t p (rw e at short).1)
    where
      taxon : Taxon
      taxon = record { name = n; cells = cells }

      full : eqb (length cells) sh.characters ≡ true → done (between (rows ++ (taxon ∷ []))) ≡ done t → Sequenced t
      full e q =
          sequenced (between (rows ++ (taxon ∷ []))) t
          (record { named = rw (names-one rows taxon) p.1; whole = all_one (Whole sh.format sh.characters) rows taxon p.0.whole (record { long = eqb-true (length cells) sh.characters e; fine = p.2 }) })
          q

  turn-sequenced : (s : Sequence) (w : Numbered) (t : Sequence) → Sequenced s → Q w → sequential_turn sh s w ≡ done t → Sequenced t
  unfolding sequential_turn
  turn-sequenced (between rows) w t p c h = begins-sequenced rows w t p c (pick-else (eqb (length rows) sh.taxa) Refusal.Count w.index _ t h).1
  turn-sequenced (inside rows i n row) w t p c h =
      let r = then-done (chunk sh.format row w) (row_grown sh rows i n w) t h in
      grown-sequenced rows i n w r.0 t (p.0, p.1, chunk-fine sh.format good row w r.0 p.2 r.1) r.2

  end-matrix : (s : Sequence) (rows : List Taxon) → Sequenced s → sequential_end sh s ≡ done rows → Matrix N sh rows
  unfolding sequential_end row_open
  end-matrix (between rows) out p h =
      let q = pick-when (eqb (length rows) sh.taxa) Refusal.Count sh.head (done rows) out h in
      rw (← done_inj q.1) (record { rowed = p; counted = eqb-true (length rows) sh.taxa q.0 })
  end-matrix (inside rows i n (plain cells)) out p h = refused-done Refusal.Row i out h
  end-matrix (inside rows i n (within cells k j set)) out p h = refused-done Refusal.StateSet j out h

  pub sequential-matrix : (ws : List Numbered) (rows : List Taxon) → All Q ws → sequential sh ws ≡ done rows → Matrix N sh rows
  unfolding sequential
  sequential-matrix ws rows c h =
      let s = then-done (fold (sequential_turn sh) (between []) ws) (sequential_end sh) rows h in
      end-matrix s.0 rows (fold-keeps Sequenced Q (sequential_turn sh) turn-sequenced (between []) ws s.0 (record { named = unfold names in named_none N; whole = tt }) c s.1) s.2
