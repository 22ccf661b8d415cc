-- What the rows of MATRIX refuse, and which of its words they name. Assumes nothing.
use Prim.Native.Nat.{ℕ, suc, ◌+◌, ◌*◌, ◌≤◌, ◌<◌}
use Rattle.block.proofs.DeclaredFaults.{Unnamed}
use Rattle.block.proofs.Faulted.{Faults, Ends, gives, refuses, refusals, come, either, both, needed, then-ends, fold-ends, reached-ends}
use Rattle.block.proofs.OutcomeLaws.{All, Any, all_right}
use Rattle.block.proofs.RowsSound.{names-one}
use Rattle.block.specs.Cell.{Cell}
use Rattle.block.specs.Chunk.{cells_of, symbols, only_states, closer, Row, plain, within, closed, into_set, chunk, row_end}
use Rattle.block.specs.Faults.{set_mark}
use Rattle.block.specs.Format.{Format}
use Rattle.block.specs.Interleaved.{Line, lines, Page, first_page, new_taxon, old_taxon, line_taxon, turned, with_row, fits, line_cells, line_row, line_turn, pages, all_long, interleaved_end, interleaved}
use Rattle.block.specs.Names.{known}
use Rattle.block.specs.Outcome.{done, refused, fold}
use Rattle.block.specs.Reading.{Taxon}
use Rattle.block.specs.Sequential.{Shape, names, Sequence, between, inside, row_begins, row_grown, sequential_turn, row_open, sequential_end, sequential}
use Rattle.block.specs.declared.kinds.Bracket.{Bracket}
use Rattle.lexer.proofs.Basics.{or-first, or-second, and_left, and_right, not-both, chosen}
use Rattle.lexer.specs.Base.{byte, is_empty, alike}
use Rattle.lexer.specs.Words.{Numbered, label, punct, is_word}
use Rattle.lexer.specs.declared.refusal.Refusal.{Refusal}
use borrow.Author.Tests.{eqb-true, eqb-false}
use lib.Dec.{ltb, eqb}
use lib.ListN.{length, length-append}
use mathlib.Core.Bool.{true, false, ◌&&◌, ◌||◌, true≢false}
use mathlib.Core.List.{List, [], ◌∷◌, ◌++◌, append_assoc, map, map-append}
use mathlib.Core.Option.{Option, none, some}
use mathlib.Core.Path.{◌≡◌, refl, sym, ap, ◌∙◌}
use native.Mathlib.Nat.{zero-mul, suc-mul}
use native.Mathlib.Omega.{arith}

-- A word of MATRIX: 24 at any, 17 by its being no name, 22 and 23 by the cells that it is in the format, or a mark that opens a set.
pub record MatrixFaults (R : Faults) (f : Format) (w : Numbered) : Type 0 where
  pub symbol : symbols f w ≡ refused Refusal.CellSymbol w.index → R Refusal.CellSymbol w.index
  pub opened : set_mark w ≡ true → R Refusal.StateSet w.index
  pub states : (cells : List Cell) → symbols f w ≡ done cells → only_states cells ≡ none → R Refusal.StateSet w.index
  pub row : R Refusal.Row w.index
  pub unnamed : Unnamed R w

-- Sequential rows: 16 and 18 at a word at which one begins, where they are all there, or one of them has its name; 16 at the word MATRIX, where
-- they end and are not all there.
pub record SequenceFaults (R : Faults) (sh : Shape) (ws : List Numbered) : Type 0 where
  pub full : (before : List Numbered) (w : Numbered) (after : List Numbered) (rows : List Taxon) → ws ≡ before ++ (w ∷ after) → fold (sequential_turn sh) (between []) before ≡ done (between rows)
      → eqb (length rows) sh.taxa ≡ true → R Refusal.Count w.index
  pub twice : (before : List Numbered) (w : Numbered) (after : List Numbered) (rows : List Taxon) (n : List ℕ) → ws ≡ before ++ (w ∷ after) → fold (sequential_turn sh) (between []) before ≡ done (between rows)
      → label w ≡ some n → known n (names rows) ≡ true → R Refusal.TaxonTwice w.index
  pub few : (rows : List Taxon) → fold (sequential_turn sh) (between []) ws ≡ done (between rows) → eqb (length rows) sh.taxa ≡ false → R Refusal.Count sh.head

-- The first words of lines, as names.
abbrev pub heads : List Line → List (Option (List ℕ))
heads ls = map (λ (l : Line). label l.first) ls

-- Pages: 16 at the first line of one that is too short, 18 at a line of the first whose name one before it has; 16 at the word MATRIX, where they
-- end and the rows are not all there and whole.
pub record PageFaults (R : Faults) (sh : Shape) (ls : List Line) : Type 0 where
  pub short : (before : List Line) (l : Line) (after : List Line) (whole : ℕ) → ls ≡ before ++ (l ∷ after) → length before ≡ whole * sh.taxa → ltb (suc (length after)) sh.taxa ≡ true
      → R Refusal.Count l.first.index
  pub twice : (before : List Line) (l : Line) (after : List Line) (ns : List (List ℕ)) (n : List ℕ) → ls ≡ before ++ (l ∷ after) → length before < sh.taxa → heads before ≡ map some ns
      → label l.first ≡ some n → known n ns ≡ true → R Refusal.TaxonTwice l.first.index
  pub few : (p : Page) → pages sh first_page ls ≡ done p → eqb (length p.below) sh.taxa && all_long sh.characters p.below ≡ false → R Refusal.Count sh.head

-- Where a page is behind these lines: so many whole pages, and its own lines; on the first they have the names of its rows.
record OnPage (sh : Shape) (before : List Line) (p : Page) : Type 0 where
  whole : ℕ
  counted : length before ≡ whole * sh.taxa + length p.above
  room : length p.above < sh.taxa
  named : p.first ≡ true → (length before ≡ length p.above) × (heads before ≡ map some (names p.above))

none_above : (above : List Taxon) → is_empty above ≡ true → length above ≡ 0
unfolding is_empty
none_above [] h = refl
none_above (t ∷ above) h = absurd (true≢false (sym h))

page-starts : (sh : Shape) → 1 ≤ sh.taxa → OnPage sh [] first_page
unfolding first_page names
page-starts sh h = record { whole = 0; counted = omega (arith, zero-mul sh.taxa); room = h; named = λ e. (refl, refl) }

page-goes-on : (sh : Shape) (before : List Line) (p : Page) (l : Line) (t : Taxon) (width : ℕ) → OnPage sh before p → (p.first ≡ true → label l.first ≡ some t.name)
    → OnPage sh (before ++ (l ∷ [])) (with_row sh p t width)
unfolding with_row turned names
page-goes-on sh before p l t width k name =
    let one = length-append before (l ∷ []) in
    let above = length-append p.above (t ∷ []) in
    chosen (OnPage sh (before ++ (l ∷ []))) (eqb (length (p.above ++ (t ∷ []))) sh.taxa)
    (λ e.
    let full = eqb-true (length (p.above ++ (t ∷ []))) sh.taxa e in
    let more = suc-mul k.whole sh.taxa in
    record { whole = suc k.whole; counted = omega (arith, k.counted, one, above, full, more); room = omega (arith, k.room); named = λ f. absurd (true≢false (sym f)) })
    (λ e.
    let part = eqb-false (length (p.above ++ (t ∷ []))) sh.taxa e in
    record {
      whole = k.whole;
      counted = omega (arith, k.counted, one, above);
      room = omega (arith, k.room, above, part);
      named = λ f. (omega (arith, (k.named f).0, one, above), rw (map-append, names-one, map-append, (k.named f).1, name f));
    })

-- Only 22, at the word, is said of its cells.
data SymbolFault (w : Numbered) : Refusal → ℕ → Type 0 where
  here : SymbolFault w Refusal.CellSymbol w.index

symbols-only : (f : Format) (w : Numbered) → Ends (SymbolFault w) Any (symbols f w)
unfolding symbols
symbols-only f w =
    both (SymbolFault w) (is_word w.token.kind || punct (byte "+") w)
    (needed (SymbolFault w) (cells_of f w.token.text) Refusal.CellSymbol w.index (λ e. here) (λ c e. tt))
    (refuses here)

module _ (R : Faults) where
  -- An open set may be refused at its opening mark.
  abbrev SetOpen : Row → Type 0
  SetOpen (plain cells) = Unit {0}
  SetOpen (within cells k i set) = R Refusal.StateSet i

  -- The cells of a word, or 22 at the word.
  symbols-faults : (f : Format) (w : Numbered) → MatrixFaults R f w → Ends R (λ cells. Any cells × (symbols f w ≡ done cells)) (symbols f w)
  symbols-faults f w q = refusals (SymbolFault w) R told (come (SymbolFault w) (symbols-only f w))
    where
      told : (n : Refusal) (i : ℕ) → symbols f w ≡ refused n i → SymbolFault w n i → R n i
      told n i e here = q.symbol e

  closed-faults : (cells : List Cell) (k : Bracket) (i : ℕ) (set : List ℕ) → R Refusal.StateSet i → Ends R SetOpen (closed cells k i set)
  unfolding closed
  closed-faults cells k i [] r = refuses r
  closed-faults cells k i (s ∷ set) r = gives tt

  chunk-faults : (f : Format) (row : Row) (w : Numbered) → SetOpen row → MatrixFaults R f w → Ends R SetOpen (chunk f row w)
  unfolding chunk into_set set_mark
  chunk-faults f (plain cells) w p q =
      either R (punct (byte "{") w) (λ e. gives (q.opened (or-first (punct (byte "{") w) _ e)))
      (λ n. either R (punct (byte "(") w) (λ e. gives (q.opened (or-second (punct (byte "{") w) _ e)))
      (λ o. then-ends R (symbols-faults f w q) (λ new e. gives tt)))
  chunk-faults f (within cells k i set) w p q =
      both R (punct (closer k) w) (closed-faults cells k i set p)
      (then-ends R (symbols-faults f w q)
      (λ new e. then-ends R {P = Any} (needed R (only_states new) Refusal.StateSet w.index (q.states new e.1) (λ s n. tt)) (λ s n. gives p)))

  row-end-faults : (row : Row) → SetOpen row → Ends R Any (row_end row)
  unfolding row_end
  row-end-faults (plain cells) p = gives tt
  row-end-faults (within cells k i set) p = refuses p

  -- A row that has begun may be refused at its name.
  abbrev RowOpen : Sequence → Type 0
  RowOpen (between rows) = Unit {0}
  RowOpen (inside rows i n row) = R Refusal.Row i × SetOpen row

  -- The words of a line.
  abbrev pub LineFaults : Format → Line → Type 0
  LineFaults f l = MatrixFaults R f l.first × All (MatrixFaults R f) l.rest

  module _ (sh : Shape) where
    grown-faults : (rows : List Taxon) (i : ℕ) (n : List ℕ) (w : Numbered) (row : Row) → R Refusal.Row i → MatrixFaults R sh.format w → SetOpen row → Ends R RowOpen (row_grown sh rows i n w row)
    unfolding row_grown
    grown-faults rows i n w (within cells k j set) r q p = gives {a = inside rows i n (within cells k j set)} (r, p)
    grown-faults rows i n w (plain cells) r q p =
        both R (ltb sh.characters (length cells)) (refuses q.row) (both R (eqb (length cells) sh.characters) (gives tt) (gives (r, tt)))

    row-open-faults : (i : ℕ) (row : Row) → R Refusal.Row i → SetOpen row → Ends R Any (row_open i row)
    unfolding row_open
    row-open-faults i (plain cells) r p = refuses r
    row-open-faults i (within cells k j set) r p = refuses p

    module _ (ws : List Numbered) (at : SequenceFaults R sh ws) (q : All (MatrixFaults R sh.format) ws) where
      sequential-turn-faults : (before : List Numbered) (w : Numbered) (after : List Numbered) (m : Sequence) → ws ≡ before ++ (w ∷ after) → fold (sequential_turn sh) (between []) before ≡ done m → RowOpen m
          → Ends R RowOpen (sequential_turn sh m w)
      unfolding sequential_turn row_begins
      sequential-turn-faults before w after (between rows) e r p =
          let f = (all_right (MatrixFaults R sh.format) before (w ∷ after) (rw e at q)).0 in
          either R (eqb (length rows) sh.taxa) (λ full. refuses (at.full before w after rows e r full))
          (λ more. then-ends R (needed R (label w) Refusal.NotName w.index f.unnamed (λ n l. l))
          (λ n l. either R (known n (names rows)) (λ k. refuses (at.twice before w after rows n e r l k)) (λ k. gives (f.row, tt))))
      sequential-turn-faults before w after (inside rows i n row) e r p =
          let f = (all_right (MatrixFaults R sh.format) before (w ∷ after) (rw e at q)).0 in
          then-ends R (chunk-faults sh.format row w p.1 f) (λ new o. grown-faults rows i n w new p.0 f o)

      sequential-end-faults : (m : Sequence) → RowOpen m → fold (sequential_turn sh) (between []) ws ≡ done m → Ends R Any (sequential_end sh m)
      unfolding sequential_end
      sequential-end-faults (between rows) p r = either R (eqb (length rows) sh.taxa) (λ e. gives tt) (λ e. refuses (at.few rows r e))
      sequential-end-faults (inside rows i n row) p r = row-open-faults i row p.0 p.1

      pub sequential-faults : Ends R Any (sequential sh ws)
      unfolding sequential
      sequential-faults = then-ends R (reached-ends R RowOpen (sequential_turn sh) (between []) ws sequential-turn-faults tt) (λ m k. sequential-end-faults m k.0 k.1)

    -- Interleaved pages
    module _ (ls : List Line) (at : PageFaults R sh ls) where
      taxon-faults : (before : List Line) (l : Line) (after : List Line) (p : Page) (n : List ℕ) → ls ≡ before ++ (l ∷ after) → OnPage sh before p → label l.first ≡ some n → R Refusal.Row l.first.index
          → Ends R (λ t. p.first ≡ true → t.name ≡ n) (line_taxon p l.first.index n)
      unfolding line_taxon new_taxon old_taxon
      taxon-faults before l after p n e k named r =
          either R p.first
          (λ f.
          let same = k.named f in
          either R (known n (names p.above))
          (λ again. refuses (at.twice before l after (names p.above) n e (omega (arith, k.room, same.0)) same.1 named again))
          (λ new. gives (λ g. refl)))
          (λ f. old f p.below)
        where
          old : p.first ≡ false → (below : List Taxon) → Ends R (λ t. p.first ≡ true → t.name ≡ n) (old_taxon below l.first.index n)
          old f [] = refuses r
          old f (t ∷ rest) = both R (alike n t.name) (gives (λ g. not-both f g)) (refuses r)

      line-faults : (before : List Line) (l : Line) (after : List Line) (p : Page) → ls ≡ before ++ (l ∷ after) → OnPage sh before p → LineFaults sh.format l
          → Ends R (OnPage sh (before ++ (l ∷ []))) (line_turn sh p l (length after))
      unfolding line_turn line_row line_cells
      line-faults before l after p e k q =
          either R (is_empty p.above && ltb (suc (length after)) sh.taxa)
          (λ s. refuses (at.short before l after k.whole e (omega (arith, k.counted, none_above p.above (and_left (is_empty p.above) _ s))) (and_right (is_empty p.above) _ s)))
          (λ s. then-ends R (needed R (label l.first) Refusal.NotName l.first.index q.0.unnamed (λ n i. i))
          (λ n i. then-ends R (taxon-faults before l after p n e k i q.0.row)
          (λ t o. then-ends R (then-ends R (fold-ends R SetOpen (MatrixFaults R sh.format) (chunk sh.format) (chunk-faults sh.format) (plain []) l.rest tt q.1) row-end-faults)
          (λ cells f. both R (fits sh p t cells) (gives (page-goes-on sh before p l (record { name = t.name; cells = t.cells ++ cells }) (length cells) k (λ g. i ∙ ap some (sym (o g))))) (refuses q.0.row)))))

      pages-faults : (before : List Line) (p : Page) (rest : List Line) → ls ≡ before ++ rest → OnPage sh before p → All (LineFaults sh.format) rest → Ends R Any (pages sh p rest)
      unfolding pages
      pages-faults before p [] e k q = gives tt
      pages-faults before p (l ∷ rest) e k q =
          then-ends R (line-faults before l rest p e k q.0) (λ n o. pages-faults (before ++ (l ∷ [])) n rest (e ∙ sym (append_assoc before (l ∷ []) rest)) o q.1)

    pub interleaved-faults : (ws : List Numbered) → 1 ≤ sh.taxa → PageFaults R sh (lines ws) → All (LineFaults sh.format) (lines ws) → Ends R Any (interleaved sh ws)
    unfolding interleaved interleaved_end
    interleaved-faults ws h at q =
        then-ends R (come R (pages-faults (lines ws) at [] first_page (lines ws) refl (page-starts sh h) q))
        (λ p k. either R (eqb (length p.below) sh.taxa && all_long sh.characters p.below) (λ e. gives tt) (λ e. refuses (at.few p k.1 e)))
