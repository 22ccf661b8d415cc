-- The walk over the lines of an interleaved matrix: what its turns keep, and what they come to. Assumes nothing.
use Rattle.std.specs.Prelude.{None, Ok, Err, Result}
use Prim.Native.Nat.{ℕ, ◌+◌, ◌≤◌, ◌<◌}
use Rattle.block.proofs.OutcomeLaws.{All, all_one}
use Rattle.block.specs.Codes.{Coded}
use Rattle.block.specs.Commands.{newline}
use Rattle.block.specs.Format.{Format}
use Rattle.block.specs.Interleaved.{Line, Page, first_page, to_newline, lines_from, lines, line_turn, pages, all_long, interleaved_end, interleaved}
use Rattle.block.specs.Judged.{judged}
use Rattle.block.specs.Outcome.{Outcome, done, refused, then, outcome}
use Rattle.block.specs.Reading.{Taxon}
use Rattle.block.specs.Sequential.{Shape, names}
use Rattle.lexer.proofs.Basics.{by-test, chosen, and_left, and-true, eqb-sym}
use Rattle.lexer.proofs.RangeLaws.{word_kept, range-kept}
use Rattle.lexer.proofs.SmallBytes.{Small}
use Rattle.lexer.specs.Base.{pick}
use Rattle.lexer.specs.Stored.{word_of, range}
use Rattle.lexer.specs.declared.refusal.Refusal.{Refusal}
use Rattle.matrix.proofs.BelowLaws.{each_below}
use Rattle.matrix.proofs.LineLaws.{lines_end, lines-line, line-then, next-ahead}
use Rattle.matrix.proofs.PageNames.{whole-names, front-names}
use Rattle.matrix.proofs.PageShapes.{grown-room}
use Rattle.matrix.proofs.PageTurns.{Long, Shaped, Comes, turn-comes}
use Rattle.matrix.proofs.RowNames.{stored-count}
use Rattle.matrix.proofs.StoredLines.{held_more, named_more, page-kept, pages-kept}
use Rattle.matrix.proofs.StoredRows.{cleared-front, names-kept}
use Rattle.matrix.proofs.WalkedRows.{refused-rows}
use Rattle.matrix.specs.Lines.{RowsRoom, name_at, stored, names_stored}
use Rattle.matrix.specs.PagesHeld.{LineBegins, LineEnds, LineRoom, PagesRead, page_held, pages_held, paged, count_from, line_name, misfit, page_grown, line_grown, page_short, line_shape, pages_end}
use Rattle.matrix.specs.RowIndex.{Indexed, RowPut}
use Rattle.matrix.specs.declared.interleaved.Pages.{Pages}
use Rattle.matrix.specs.declared.matrix.Chunk.{Chunk}
use borrow.Author.Tests.{eqb-true, eqb-false, eq-eqb, ne_eqb}
use lib.Dec.{eqb}
use Rattle.slots.specs.Filling.{Cleared, TableFits, TableSound}
use Rattle.slots.specs.declared.Table.{Table}
use Rattle.lexer.specs.declared.Fault.{Fault}
use Rattle.lexer.specs.Refusals.{fault}
use lib.ListN.{length, take, length-map}
use mathlib.Core.Bool.{Bool, true, false, ◌&&◌, false≢true}
use mathlib.Core.List.{List, [], ◌∷◌, ◌++◌}
use mathlib.Core.Path.{◌≡◌, refl, sym, ap, ◌∙◌}
use native.Mathlib.Omega.{arith}

-- What a line can do at most to the shape of a page.
abbrev Bounds : Bool → ℕ → ℕ → Outcome Pages → Type 0
Bounds first row characters (done r) = (r.row ≤ row + 1) × (r.earlier ≤ characters) × (r.first ≡ true → first ≡ true)
Bounds first row characters (refused m j) = Unit {0}

then-bounds : {A : Type 0} (first : Bool) (row characters : ℕ) (o : Outcome A) (g : A → Outcome Pages) → ((a : A) → Bounds first row characters (g a)) → Bounds first row characters (then o g)
unfolding then
then-bounds first row characters (done a) g h = h a
then-bounds first row characters (refused m j) g h = tt

module _ (taxa characters : ℕ) (q : Pages) (within : q.earlier ≤ characters) where
  grown-bounds : (i n : ℕ) → Bounds q.first q.row characters (line_grown taxa characters q i n)
  unfolding line_grown page_grown
  grown-bounds i n =
      chosen (Bounds q.first q.row characters) (misfit characters q n) (λ _. tt)
      (λ e. chosen (λ (r : Pages). (r.row ≤ q.row + 1) × (r.earlier ≤ characters) × (r.first ≡ true → q.first ≡ true)) (eqb (q.row + 1) taxa) (λ _. (omega arith, grown-room characters q n within e, λ d. absurd (false≢true d))) (λ _. (omega arith, within, λ d. d)))

  shape-bounds : (text work codes : List ℕ) (at rows i to : ℕ) → Bounds q.first q.row characters (line_shape text work codes at rows taxa characters q i to)
  unfolding line_shape
  shape-bounds text work codes at rows i to =
      chosen (Bounds q.first q.row characters) (page_short text work taxa q i to) (λ _. tt)
      (λ _. then-bounds q.first q.row characters (judged i (line_name text work at rows q i)) _ (λ s. then-bounds q.first q.row characters (count_from codes (Chunk.Plain 0) (to_newline (range text work (s + 1) to))) _ (λ n. grown-bounds s n)))

-- Rows of one length are as long as they are to be exactly where that is the length.
all-long : (n e : ℕ) (l : List Taxon) → All (Long e) l → eqb e n ≡ true → all_long n l ≡ true
unfolding all_long
all-long n e [] h d = refl
all-long n e (t ∷ r) h d = rw (h.0, d, all-long n e r h.1 d)

some-long : (n e : ℕ) (l : List Taxon) → All (Long e) l → 0 < length l → all_long n l ≡ eqb e n
unfolding all_long
some-long n e [] h s = absurd (omega arith)
some-long n e (t ∷ r) h s = by-test (eqb e n) (λ d. all-long n e (t ∷ r) h d ∙ sym d) (λ d. rw (h.0, d))

-- At the end the code tests what the definition tests.
end_test : (taxa characters : ℕ) (stored : List (List ℕ)) (q : Pages) (p : Page) → Shaped taxa stored q p
    → eqb (length p.below) taxa && all_long characters p.below ≡ pick q.first (eqb taxa 0) (eqb q.row 0 && eqb q.earlier characters)
unfolding pick all_long
end_test taxa characters stored q p k = by-test q.first (λ e. rw (e, (k.new e).0) (and-true (eqb 0 taxa) ∙ eqb-sym 0 taxa)) (λ e. rw e (later (k.later e)))
  where
    later : (length p.above + length p.below ≡ taxa) × (length p.above < taxa)
        → eqb (length p.below) taxa && all_long characters p.below ≡ eqb q.row 0 && eqb q.earlier characters
    later z =
        by-test (eqb q.row 0)
        (λ d. let none = eqb-true q.row 0 d in rw (d, eq-eqb (length p.below) taxa (omega (arith, z.0, k.row)), some-long characters q.earlier p.below k.below (omega (arith, z.0, z.1, k.row))))
        (λ d. let some = eqb-false q.row 0 d in rw (d, ne_eqb (length p.below) taxa (λ s. some (omega (arith, z.0, k.row)))))

-- So many rows are answered as lines are stored, where the test at the end holds.
end-rows : (taxa characters head rows : ℕ) (q : Pages) (m : ℕ) → pages_end taxa characters head rows q ≡ Ok m
    → (m ≡ rows) × (pick q.first (eqb taxa 0) (eqb q.row 0 && eqb q.earlier characters) ≡ true)
unfolding pages_end
end-rows taxa characters head rows q m =
    let test = pick q.first (eqb taxa 0) (eqb q.row 0 && eqb q.earlier characters) in
    chosen (λ r. r ≡ Ok m → (m ≡ rows) × (test ≡ true)) test (λ t e. (cc, t)) (λ _ e. refused-rows e)

-- What the matrix is to be, in a format.
abbrev matrix_of : ℕ → ℕ → ℕ → Format → Shape
matrix_of taxa characters head f = record { taxa = taxa; characters = characters; format = f; head = head }

-- By the definition: behind the lines that are stored, those that begin from here on come to what all of them come to.
pub record Walked (text before : List ℕ) (from to taxa characters head : ℕ) (f : Format) (starts : List ℕ) (q : Pages) (i : ℕ) : Type 0 where
  pub shaped : Shaped taxa (names_stored text before starts) q (page_held text before f taxa to first_page starts)
  pub rest : then (pages (matrix_of taxa characters head f) (page_held text before f taxa to first_page starts) (lines_from false (range text before i to))) (interleaved_end (matrix_of taxa characters head f))
      ≡ interleaved (matrix_of taxa characters head f) (range text before from to)

-- Work memory is kept in front of the lines. No more of them are stored than there were tokens, each the index of one, and on the first page a table
-- has them; with those that begin from here
-- on they are all lines; a line begins here, or nothing is left; and for every format with these codes, what is read from here on is what all of it is read as.
pub record Paging (text codes before : List ℕ) (at from to taxa characters head : ℕ) (t : Table) (work : List ℕ) (rows : ℕ) (q : Pages) (i : ℕ) : Type 0 where
  pub size : length work ≡ length before
  pub kept : take at work ≡ take at before
  pub few : rows ≤ i
  pub within : rows ≤ to
  pub starts : All (λ s. s < at) (stored work at rows)
  pub indexed : q.first ≡ true → Indexed text work at rows t
  pub row : q.row ≤ rows
  pub earlier : q.earlier ≤ characters
  pub here : i < to → newline (word_of text before i) ≡ false
  pub count : rows + length (lines_from false (range text before i to)) ≡ length (lines (range text before from to))
  pub each : (f : Format) → Coded f codes → length f.symbols ≤ 74 → Walked text before from to taxa characters head f (stored work at rows) q i

module _ {text codes before : List ℕ} {at from to taxa characters head : ℕ} {t : Table} where
  pub paging-start : {i : ℕ} → LineBegins text before from to i → Paging text codes before at from to taxa characters head t before 0 (record { first = true; row = 0; earlier = 0; width = None }) i
  unfolding stored names_stored page_held first_page names interleaved lines
  paging-start b =
      record {
        size = refl;
        kept = refl;
        few = omega arith;
        within = omega arith;
        starts = tt;
        indexed = λ _. record { each = λ k l. absurd (omega arith) };
        row = omega arith;
        earlier = omega arith;
        here = b.here;
        count = rw b.lines (omega arith);
        each =
            λ f c few.
            record {
              shaped = record { first = refl; row = refl; width = refl; wide = λ e. (let z : ◌≡◌ {A = ℕ} 0 1 = cc in omega arith); above = tt; below = tt; others = []; named = refl; new = λ _. (refl, refl, refl); later = λ e. absurd (false≢true (sym e)); begun = λ _. refl };
              rest = rw b.lines;
            };
      }

  module _ (room : RowsRoom text before at to) {work : List ℕ} {rows : ℕ} {q : Pages} {i : ℕ} (k : Paging text codes before at from to taxa characters head t work rows q i) where
    abbrev matrix : Format → Shape
    matrix f = matrix_of taxa characters head f

    abbrev held : Format → List ℕ → Page
    held f starts = page_held text before f taxa to first_page starts

    ended : (f : Format) → Walked text before from to taxa characters head f (stored work at rows) q i → to ≤ i → interleaved_end (matrix f) (held f (stored work at rows)) ≡ interleaved (matrix f) (range text before from to)
    unfolding pages then
    ended f w h = rw (lines_end text before i to false h) at w.rest

    end_same : (f : Format) → Walked text before from to taxa characters head f (stored work at rows) q i
        → paged text work at f taxa to (pages_end taxa characters head rows q) ≡ interleaved_end (matrix f) (held f (stored work at rows))
    unfolding paged pages_held pages_end interleaved_end pick
    end_same f w =
        rw (end_test taxa characters (names_stored text before (stored work at rows)) q (held f (stored work at rows)) w.shaped)
        (go (pick q.first (eqb taxa 0) (eqb q.row 0 && eqb q.earlier characters)))
      where
        go : (b : Bool) → paged text work at f taxa to (pick b (Ok rows) (Err (fault Refusal.Count head))) ≡ pick b (done (held f (stored work at rows)).below) (refused Refusal.Count head)
        go true = ap (λ p. done p.below) (page-kept text work before at k.kept f taxa to room.apart first_page (stored work at rows) k.starts)
        go false = refl

    all-passed : to ≤ i → rows ≡ length (lines (range text before from to))
    all-passed h = let none : length (lines_from false (range text before i to)) ≡ 0 = rw (lines_end text before i to false h) in omega (arith, k.count)

    -- what is answered at the end: as many rows as there are to be, of the names of the first lines
    end_whole : (f : Format) → Walked text before from to taxa characters head f (stored work at rows) q i → (m : ℕ) → pages_end taxa characters head rows q ≡ Ok m
        → (taxa ≤ m) × (names (pages_held text work f taxa to (stored work at m)) ≡ names_stored text work (stored work at taxa))
    unfolding pages_held names_stored
    end_whole f w m e =
        let z = end-rows taxa characters head rows q m e in
        let page = held f (stored work at rows) in
        let all = and_left (eqb (length page.below) taxa) (all_long characters page.below) (end_test taxa characters (names_stored text before (stored work at rows)) q page w.shaped ∙ z.1) in
        let first = whole-names taxa (names_stored text before (stored work at rows)) q page w.shaped (eqb-true (length page.below) taxa all) in
        let count : length (names_stored text before (stored work at rows)) ≡ rows = length-map (stored work at rows) (name_at text before) ∙ stored-count work at rows (omega (arith, k.within, k.size, room.behind)) in
        let few : taxa ≤ rows = omega (arith, first.0) in
        rw z.0 (
          few,
          ap names (pages-kept text work before at k.kept f taxa to room.apart (stored work at rows) k.starts) ∙ (first.1 ∙ front-names text work before at k.kept taxa rows k.starts few),
        )

    pub paging-end : {r : Result ℕ (Fault ℕ)} → r ≡ pages_end taxa characters head rows q → to ≤ i → PagesRead text codes before work at from to taxa characters head r
    paging-end {r} e h =
        record {
          size = k.size;
          kept = k.kept;
          few = λ m d. let z = end-rows taxa characters head rows q m (sym e ∙ d) in omega (arith, z.0, k.within);
          count = λ m d. (end-rows taxa characters head rows q m (sym e ∙ d)).0 ∙ all-passed h;
          below = λ m d. rw (end-rows taxa characters head rows q m (sym e ∙ d)).0 (each_below at (stored work at rows) k.starts);
          enough = λ f c few m d. (end_whole f (k.each f c few) m (sym e ∙ d)).0;
          named = λ f c few m d. (end_whole f (k.each f c few) m (sym e ∙ d)).1;
          read = λ f c few. let w = k.each f c few in rw e (end_same f w ∙ ended f w h);
        }

    -- there is room for a line that begins here
    paging-room : TableSound t → i < to → LineRoom text work at rows to characters q i t
    paging-room sound h =
        record {
          stored = omega (arith, k.within, k.size, room.behind);
          row = k.row;
          earlier = k.earlier;
          below = h;
          lines = omega (arith, k.within, room.tokens);
          tokens = room.tokens;
          bytes = room.bytes;
          sound = sound;
          indexed = k.indexed;
        }

-- The line that begins here was judged.
pub record Judging (text codes before : List ℕ) (at from to taxa characters head : ℕ) (t : Table) (work : List ℕ) (rows : ℕ) (q : Pages) (i : ℕ) (r : Result Pages (Fault ℕ)) : Type 0 where
  pub room : RowsRoom text before at to
  pub fits : TableFits (at + to) (length before) t
  pub place : Paging text codes before at from to taxa characters head t work rows q i
  pub below : i < to
  pub small : Small text
  pub lined : outcome r ≡ line_shape text work codes at rows taxa characters q i to

module _ {text codes before : List ℕ} {at from to taxa characters head : ℕ} {t : Table} {work : List ℕ} {rows : ℕ} {q : Pages} {i : ℕ} {r : Result Pages (Fault ℕ)}
    (j : Judging text codes before at from to taxa characters head t work rows q i r) where
  under : i < at
  under = omega (arith, j.below, j.room.apart)

  here : newline (word_of text work i) ≡ false
  here = rw (word_kept text work before at j.place.kept i under) (j.place.here j.below)

  abbrev line : Line
  line = record { first = word_of text work i; rest = to_newline (range text work (i + 1) to) }

  module _ (f : Format) (c : Coded f codes) (few : length f.symbols ≤ 74) where
    abbrev page : Page
    page = page_held text before f taxa to first_page (stored work at rows)

    shaped : Shaped taxa (names_stored text work (stored work at rows)) q page
    shaped = rw (names-kept text work before at j.place.kept (stored work at rows) j.place.starts) (j.place.each f c few).shaped

    rest : then (pages (matrix_of taxa characters head f) page (lines_from false (range text work i to))) (interleaved_end (matrix_of taxa characters head f)) ≡ interleaved (matrix_of taxa characters head f) (range text before from to)
    rest = rw (range-kept text work before at j.place.kept i to j.room.apart) (j.place.each f c few).rest

    -- with the lines behind it
    module _ (later : List Line) (one : lines_from false (range text work i to) ≡ line ∷ later) where
      come : (o : Outcome Pages) → outcome r ≡ o
          → Comes text work codes f c few j.small at rows taxa characters head (paging-room j.room j.place j.fits.sound j.below).stored q page shaped j.place.earlier i to o (line_turn (matrix_of taxa characters head f) page line (length later))
      come o d =
          rw (← d, j.lined)
          (turn-comes text work codes f c few j.small at rows taxa characters head (paging-room j.room j.place j.fits.sound j.below).stored q page shaped j.place.earlier i to (length later) (ap length one))

      walked-refused : (m : Refusal) (n : ℕ) → r ≡ Err (fault m n) → refused m n ≡ interleaved (matrix_of taxa characters head f) (range text before from to)
      unfolding outcome pages then
      walked-refused m n d = let z = come (refused m n) (ap outcome d) in rw (one, z) at rest

      walked-page : (next : ℕ) → later ≡ lines_from false (range text work next to) → (x : Pages) → r ≡ Ok x → Walked text before from to taxa characters head f (stored work at rows ++ (i ∷ [])) x next
      unfolding outcome pages then
      walked-page next behind x d =
          let z = come (done x) (ap outcome d) in
          let more = held_more text work before at j.place.kept f taxa to j.room.apart first_page (stored work at rows) i under in
          record {
            shaped = rw (named_more text work before at j.place.kept f taxa to j.room.apart (stored work at rows) i j.place.starts under, more) z.1;
            rest = rw (more, ← range-kept text work before at j.place.kept next to j.room.apart, ← behind) (rw (one, z.0) at rest);
          }

  pub paging-refused : (m : Refusal) (n : ℕ) → r ≡ Err (fault m n) → PagesRead text codes before work at from to taxa characters head (Err (fault m n))
  unfolding paged
  paging-refused m n d =
      record {
        size = j.place.size;
        kept = j.place.kept;
        few = λ x y. refused-rows y;
        count = λ x y. refused-rows y;
        below = λ x y. refused-rows y;
        enough = λ f c few x y. refused-rows y;
        named = λ f c few x y. refused-rows y;
        read = λ f c few. walked-refused f c few (lines_from true (range text work (i + 1) to)) (lines-line text work i to j.below here) m n d;
      }

  pub paging-page : {e next : ℕ} → LineEnds text work (i + 1) to e → LineBegins text work e to next → (x : Pages) → r ≡ Ok x → {after : List ℕ} → RowPut text work after at rows i t q.first
      → Paging text codes before at from to taxa characters head t after (rows + 1) x next
  unfolding outcome
  paging-page {e} {next} over begins x d put =
      let k = j.place in
      let b : Bounds q.first q.row characters (done x) = rw (← j.lined, d) at (shape-bounds taxa characters q k.earlier text work codes at rows i to) in
      let more = put.more in
      let behind = lines_from false (range text before next to) in
      let one : length (lines_from false (range text before i to)) ≡ length behind + 1 =
      rw (← range-kept text work before at k.kept i to j.room.apart, ← range-kept text work before at k.kept next to j.room.apart, line-then text work i to e next j.below here over begins) (omega arith) in
      record {
        size = put.size ∙ k.size;
        kept = put.kept ∙ k.kept;
        few = omega (arith, k.few, next-ahead text work i to e next j.below here over begins);
        within = omega (arith, k.few, j.below);
        starts = rw more (all_one (λ s. s < at) (stored work at rows) i k.starts under);
        indexed = λ a. let first = b.2 a in put.indexed first (each_below at (stored work at rows) k.starts) under (k.indexed first);
        row = omega (arith, b.0, k.row);
        earlier = b.1;
        here = λ l. rw (← word_kept text work before at k.kept next (omega (arith, j.room.apart))) (begins.here l);
        count = omega (arith, k.count, one);
        each = λ f c few. rw more (walked-page f c few (lines_from false (range text work next to)) (line-then text work i to e next j.below here over begins) next refl x d);
      }

-- A table was cleared behind the lines before they were read.
pub read-cleared : {text codes before work after : List ℕ} {at from to taxa characters head : ℕ} {r : Result ℕ (Fault ℕ)} → RowsRoom text before at to → Cleared before work (at + to)
    → PagesRead text codes work after at from to taxa characters head r → PagesRead text codes before after at from to taxa characters head r
read-cleared {text} {codes} {before} {work} {after} {at} {from} {to} room c k =
    let front = cleared-front before work at (at + to) c (omega arith) in
    let same = range-kept text work before at front from to room.apart in
    record {
      size = k.size ∙ c.size;
      kept = k.kept ∙ front;
      few = k.few;
      count = rw same at k.count;
      below = k.below;
      enough = k.enough;
      named = k.named;
      read = rw same at k.read;
    }
