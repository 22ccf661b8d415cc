-- One line of an interleaved matrix, as the code judges it by the shape of its page and as it is defined. Assumes nothing.
use Rattle.std.specs.Option.{unwrap_or}
use Rattle.std.specs.Prelude.{Some, None, Ok, Err, Option, Result, ⊤}
use Prim.Native.Nat.{ℕ, zero, suc, ◌+◌, ◌-◌, ◌≤◌, ◌<◌}
use Rattle.block.proofs.OutcomeLaws.{All, all_one}
use Rattle.block.proofs.RowsSound.{names-one, length-names}
use Rattle.block.specs.Cell.{Cell}
use Rattle.block.specs.Chunk.{Row, plain, within, chunk, row_end}
use Rattle.block.specs.Codes.{Coded}
use Rattle.block.specs.Commands.{newline}
use Rattle.block.specs.Format.{Format}
use Rattle.block.specs.Interleaved.{Line, Page, to_newline, lines_from, new_taxon, old_taxon, line_taxon, behind, turned, with_row, fits, line_cells, line_row, line_turn}
use Rattle.block.specs.Judged.{judged}
use Rattle.block.specs.Names.{known}
use Rattle.block.specs.Outcome.{Outcome, done, refused, then, fold, need, mapped}
use Rattle.block.specs.Reading.{Taxon}
use Rattle.block.specs.Sequential.{Shape, names}
use Rattle.lexer.proofs.Basics.{by-test, chosen, or_left}
use Rattle.lexer.proofs.LabelLaws.{label-some, label-none}
use Rattle.lexer.proofs.SmallBytes.{Small, token-small}
use Rattle.lexer.specs.Base.{pick, alike, given, is_empty}
use Rattle.lexer.specs.Stored.{word_of, words_of, range}
use Rattle.lexer.specs.Words.{Numbered, label}
use Rattle.lexer.specs.declared.refusal.Refusal.{Refusal}
use Rattle.matrix.proofs.CodeLaws.{coded-counted}
use Rattle.matrix.proofs.PageShapes.{name-none, name-twice, name_new, name-same, name-other}
use Rattle.matrix.proofs.RowNames.{names-count}
use Rattle.matrix.proofs.ShapeLaws.{chunk-shaped}
use Rattle.matrix.proofs.TakenLaws.{ended-good}
use Rattle.matrix.specs.Lines.{name_at, stored, names_stored}
use Rattle.matrix.specs.PagesHeld.{line_at, first_of, row_on, with_line, end_count, count_from, line_name, misfit, page_grown, line_grown, page_short, line_shape}
use Rattle.matrix.specs.RowShape.{shape, chunk_shape}
use Rattle.matrix.specs.Taken.{line_taken}
use Rattle.matrix.specs.declared.interleaved.Pages.{Pages}
use Rattle.matrix.specs.declared.matrix.Chunk.{Chunk}
use Rattle.lexer.specs.declared.Fault.{Fault}
use borrow.Author.Tests.{ltb-true, ltb-false, lt-ltb, le-ltb, eqb-true, eqb-false, eq-eqb, ne_eqb}
use lib.Dec.{eqb, ltb}
use lib.ListN.{length, get_or, take, drop, length-append, get_or-map}
use lib.Seq.{get_or-take, get_or-drop, get_or_at}
use mathlib.Core.Bool.{Bool, true, false, ◌&&◌, ◌||◌, not, false≢true}
use mathlib.Core.List.{List, [], ◌∷◌, ◌++◌, append_assoc, append-nil}
use mathlib.Core.Path.{◌≡◌, refl, sym, ap, ◌∙◌}
use native.Mathlib.Omega.{arith}

-- The cells of tokens, counted by their codes.
module _ (f : Format) (codes : List ℕ) (c : Coded f codes) (few : length f.symbols ≤ 74) where
  abbrev Words : List Numbered → Type 0
  Words ws = All (λ w. Small w.token.text) ws

  fold-shaped : (ws : List Numbered) → Words ws → (row : Row) → mapped shape (fold (chunk f) row ws) ≡ fold (chunk_shape codes) (shape row) ws
  unfolding fold mapped then
  fold-shaped [] h row = refl
  fold-shaped (w ∷ r) h row =
      rw (← chunk-shaped f codes w (coded-counted f codes c few w.token.text h.0) row) (go (λ t. fold-shaped r h.1 t) (chunk f row w))
    where
      go : ((t : Row) → mapped shape (fold (chunk f) t r) ≡ fold (chunk_shape codes) (shape t) r) → (o : Outcome Row)
          → mapped shape (then o (λ t. fold (chunk f) t r)) ≡ then (mapped shape o) (λ t. fold (chunk_shape codes) t r)
      go more (done t) = more t
      go more (refused n i) = refl

  end-shaped : (o : Outcome Row) → mapped length (then o row_end) ≡ then (mapped shape o) end_count
  unfolding mapped then row_end end_count shape
  end-shaped (done (plain cells)) = refl
  end-shaped (done (within cells k i set)) = refl
  end-shaped (refused n i) = refl

  cells-counted : (ws : List Numbered) → Words ws → mapped length (then (fold (chunk f) (plain []) ws) row_end) ≡ count_from codes (Chunk.Plain 0) ws
  unfolding count_from shape
  cells-counted ws h = end-shaped (fold (chunk f) (plain []) ws) ∙ ap (λ o. then o end_count) (fold-shaped ws h (plain []))

-- The bytes of the tokens of a line are small.
words_small : (text work : List ℕ) → Small text → (n i : ℕ) → All (λ w. Small w.token.text) (words_of text work i n)
unfolding words_of word_of
words_small text work small zero i = tt
words_small text work small (suc n) i = (token-small text (get_or work i 0) small, words_small text work small n (suc i))

line-all : (P : Numbered → Type 0) (ws : List Numbered) → All P ws → All P (to_newline ws)
unfolding to_newline
line-all P [] h = tt
line-all P (w ∷ r) h = chosen (All P) (newline w) (λ _. tt) (λ _. (h.0, line-all P r h.1))

line_small : (text work : List ℕ) → Small text → (i to : ℕ) → All (λ w. Small w.token.text) (to_newline (range text work i to))
unfolding range
line_small text work small i to = line-all (λ w. Small w.token.text) (words_of text work i (to - i)) (words_small text work small (to - i) i)

-- A row has so many cells.
abbrev pub Long : ℕ → Taxon → Type 0
Long n t = length t.cells ≡ n

-- A page has this shape, behind stored lines of these names: those of its rows stand in front.
pub record Shaped (taxa : ℕ) (stored : List (List ℕ)) (q : Pages) (p : Page) : Type 0 where
  pub first : p.first ≡ q.first
  pub row : length p.above ≡ q.row
  pub width : p.width ≡ unwrap_or q.width 0
  pub wide : q.width ≡ Some 0 → ⊥
  pub above : All (Long (q.earlier + unwrap_or q.width 0)) p.above
  pub below : All (Long q.earlier) p.below
  pub others : List (List ℕ)
  pub named : stored ≡ (names p.above ++ names p.below) ++ others
  pub new : q.first ≡ true → (p.below ≡ []) × (q.earlier ≡ 0) × (others ≡ [])
  pub later : q.first ≡ false → (length p.above + length p.below ≡ taxa) × (length p.above < taxa)
  pub begun : q.width ≡ None → p.above ≡ []

pub no_rows : (l : List Taxon) → length l ≡ 0 → l ≡ []
no_rows [] h = refl
no_rows (t ∷ r) h = absurd (omega arith)

-- The row that a line goes on with.
record Continues (taxa : ℕ) (stored : List (List ℕ)) (q : Pages) (p : Page) (n : List ℕ) (t : Taxon) : Type 0 where
  on : row_on p n ≡ t
  cells : length t.cells ≡ q.earlier
  others : List (List ℕ)
  named : stored ++ (n ∷ []) ≡ (names p.above ++ (t.name ∷ names (behind p.below))) ++ others
  below : All (Long q.earlier) (behind p.below)
  new : q.first ≡ true → (behind p.below ≡ []) × (others ≡ [])
  later : q.first ≡ false → suc (length p.above + length (behind p.below)) ≡ taxa

module _ (taxa : ℕ) (stored : List (List ℕ)) (q : Pages) (p : Page) (k : Shaped taxa stored q p) (n : List ℕ) where
  first-names : q.first ≡ true → stored ≡ names p.above
  unfolding names
  first-names e = let z = k.new e in k.named ∙ rw (z.0, z.2, append-nil (names p.above), append-nil (names p.above))

  first-continues : q.first ≡ true → Continues taxa stored q p n (record { name = n; cells = [] })
  unfolding row_on pick behind names
  first-continues e =
      let z = k.new e in
      record {
        on = rw (k.first, e);
        cells = sym z.1;
        others = [];
        named = rw (first-names e, z.0) (sym (append-nil (names p.above ++ (n ∷ []))));
        below = rw z.0 tt;
        new = λ _. (rw z.0, refl);
        later = λ d. absurd (false≢true (sym d ∙ e));
      }

  later-continues : q.first ≡ false → (t : Taxon) (r : List Taxon) → p.below ≡ t ∷ r → Continues taxa stored q p n t
  unfolding row_on first_of pick behind names
  later-continues e t r b =
      let z = k.later e in
      let all : All (Long q.earlier) (t ∷ r) = rw b at k.below in
      let count : length p.above + suc (length r) ≡ taxa = rw b at z.0 in
      record {
        on = rw (k.first, e, b);
        cells = all.0;
        others = k.others ++ (n ∷ []);
        named = rw b (ap (λ l. l ++ (n ∷ [])) (rw b at k.named) ∙ append_assoc (names p.above ++ (t.name ∷ names r)) k.others (n ∷ []));
        below = rw b all.1;
        new = λ d. absurd (false≢true (sym e ∙ d));
        later = λ _. rw b (omega arith);
      }

  -- The page with a line of so many cells that fit.
  module _ (characters : ℕ) (t : Taxon) (g : Continues taxa stored q p n t) (cells : List Cell) (fit : misfit characters q (length cells) ≡ false) where
    abbrev row : Taxon
    row = record { name = t.name; cells = t.cells ++ cells }

    some : length cells ≡ 0 → ⊥
    unfolding misfit
    some = eqb-false (length cells) 0 (or_left _ _ (or_left (eqb (length cells) 0 || not (eqb (unwrap_or q.width (length cells)) (length cells))) (ltb (characters - q.earlier) (length cells)) fit))

    same : unwrap_or q.width (length cells) ≡ length cells
    unfolding misfit
    same =
        by-test (eqb (unwrap_or q.width (length cells)) (length cells)) (λ e. eqb-true (unwrap_or q.width (length cells)) (length cells) e)
        (λ e. absurd (false≢true (sym (rw (ne_eqb (length cells) 0 some, e) at fit))))

    alike_above : (w : Option ℕ) → q.width ≡ w → All (Long (q.earlier + length cells)) p.above
    alike_above None e = rw (k.begun e) tt
    alike_above (Some w) e = let one : w ≡ length cells = rw e at same in rw one at (rw e at k.above)

    rows_above : All (Long (q.earlier + length cells)) (p.above ++ (row ∷ []))
    rows_above =
        all_one (Long (q.earlier + length cells)) p.above row (alike_above q.width refl)
        (length-append t.cells cells ∙ rw g.cells)

    rows_named : stored ++ (n ∷ []) ≡ (names (p.above ++ (row ∷ [])) ++ names (behind p.below)) ++ g.others
    rows_named =
        let same : names (p.above ++ (row ∷ [])) ++ names (behind p.below) ≡ names p.above ++ (t.name ∷ names (behind p.below)) = rw (names-one p.above row) (append_assoc (names p.above) (t.name ∷ []) (names (behind p.below))) in
        rw same g.named

    count : length (p.above ++ (row ∷ [])) ≡ q.row + 1
    count = length-append p.above (row ∷ []) ∙ rw k.row

    grown-shaped : (sh : Shape) → sh.taxa ≡ taxa → Shaped taxa (stored ++ (n ∷ [])) (page_grown taxa q (length cells)) (with_row sh p row (length cells))
    unfolding page_grown with_row turned pick names
    grown-shaped sh e =
        rw (e, count) (by-test (eqb (q.row + 1) taxa) (λ d. rw d (whole (eqb-true (q.row + 1) taxa d))) (λ d. rw d (partly (eqb-false (q.row + 1) taxa d))))
      where
        none_below : q.row + 1 ≡ taxa → behind p.below ≡ []
        none_below d = by-test q.first (λ f. (g.new f).0) (λ f. let z = g.later f in no_rows (behind p.below) (omega (arith, k.row)))

        whole : q.row + 1 ≡ taxa → Shaped taxa (stored ++ (n ∷ [])) (record { first = false; row = 0; earlier = q.earlier + length cells; width = None }) (record { first = false; above = []; below = p.above ++ (row ∷ []); width = 0 })
        whole d =
            record {
              first = refl;
              row = refl;
              width = refl;
              wide = λ e. (let z : ◌≡◌ {A = ℕ} 0 1 = cc in omega arith);
              above = tt;
              below = rows_above;
              others = g.others;
              named = rows_named ∙ rw (none_below d, append-nil (names (p.above ++ (row ∷ []))));
              new = λ f. absurd (false≢true f);
              later = λ _. (omega (arith, count), omega arith);
              begun = λ _. refl;
            }

        partly : (q.row + 1 ≡ taxa → ⊥)
            → Shaped taxa (stored ++ (n ∷ [])) (record { first = q.first; row = q.row + 1; earlier = q.earlier; width = Some (length cells) }) (record { first = p.first; above = p.above ++ (row ∷ []); below = behind p.below; width = length cells })
        partly d =
            record {
              first = k.first;
              row = count;
              width = refl;
              wide = λ e. some cc;
              above = rows_above;
              below = g.below;
              others = g.others;
              named = rows_named;
              new = λ f. ((g.new f).0, (k.new f).1, (g.new f).1);
              later = λ f. let z = g.later f in (omega (arith, count, k.row), omega (arith, count, k.row, d));
              begun = λ e. absurd (let z : ◌≡◌ {A = ℕ} 0 1 = cc in omega arith);
            }

-- Cells fit by the shape of the page as they fit on it.
fits-tests : (a b d : Bool) → not a && b && not d ≡ not (a || not b || d)
fits-tests true b d = refl
fits-tests false true d = refl
fits-tests false false d = refl

width-tests : (w : Option ℕ) (n : ℕ) → (w ≡ Some 0 → ⊥) → eqb (unwrap_or w 0) 0 || eqb (unwrap_or w 0) n ≡ eqb (unwrap_or w n) n
width-tests None n h = sym (eq-eqb n n refl)
width-tests (Some w) n h = rw (ne_eqb w 0 (λ e. h (ap (λ x. Some x) e))) refl

empty-count : {A : Type 0} (l : List A) → is_empty l ≡ eqb (length l) 0
unfolding is_empty
empty-count [] = refl
empty-count (a ∷ l) = sym (ne_eqb (suc (length l)) 0 (λ e. omega arith))

room-left : (characters earlier n : ℕ) → earlier ≤ characters → ltb characters (earlier + n) ≡ ltb (characters - earlier) n
room-left characters earlier n h =
    by-test (ltb (characters - earlier) n) (λ e. let l = ltb-true (characters - earlier) n e in lt-ltb characters (earlier + n) (omega arith) ∙ sym e)
    (λ e. let l = ltb-false (characters - earlier) n e in le-ltb characters (earlier + n) (omega arith) ∙ sym e)

module _ (taxa : ℕ) (stored : List (List ℕ)) (q : Pages) (p : Page) (k : Shaped taxa stored q p) (n : List ℕ) (f : Format) (characters head : ℕ) (small : q.earlier ≤ characters) (i : ℕ) where
  abbrev sh : Shape
  sh = record { taxa = taxa; characters = characters; format = f; head = head }

  -- What the line comes to for the code, the page with these cells comes to by the definition.
  abbrev Follows : List Cell → Outcome Pages → Outcome Page → Type 0
  Follows cells (done r) o = (o ≡ done (with_line f taxa p (record { name = n; cells = cells }))) × Shaped taxa (stored ++ (n ∷ [])) r (with_line f taxa p (record { name = n; cells = cells }))
  Follows cells (refused m j) o = o ≡ refused m j

  module _ (t : Taxon) (g : Continues taxa stored q p n t) where
    fits-same : (cells : List Cell) → fits sh p t cells ≡ not (misfit characters q (length cells))
    unfolding fits misfit
    fits-same cells =
        rw (empty-count cells, k.width, width-tests q.width (length cells) k.wide, length-append t.cells cells, g.cells, room-left characters q.earlier (length cells) small)
        (fits-tests (eqb (length cells) 0) (eqb (unwrap_or q.width (length cells)) (length cells)) (ltb (characters - q.earlier) (length cells)))

    on_same : (cells : List Cell) → with_row sh p (record { name = t.name; cells = t.cells ++ cells }) (length cells) ≡ with_line f taxa p (record { name = n; cells = cells })
    unfolding with_line with_row turned
    on_same cells = rw g.on

    cells-follow : (cells : List Cell) → Follows cells (line_grown taxa characters q i (length cells)) (line_cells sh p i t cells)
    unfolding line_grown line_cells pick
    cells-follow cells =
        rw (fits-same cells)
        (by-test (misfit characters q (length cells)) (λ e. rw e refl)
        (λ e. rw e (ap done (on_same cells), rw (← on_same cells) (grown-shaped taxa stored q p k n characters t g cells e sh refl))))

    line-follows : (cells : List Cell) (o : Outcome (List Cell)) → ((l : List Cell) → o ≡ done l → cells ≡ l)
        → Follows cells (then (mapped length o) (λ m. line_grown taxa characters q i m)) (then o (λ l. line_cells sh p i t l))
    unfolding then mapped
    line-follows cells (done l) same = rw (same l refl) (cells-follow l)
    line-follows cells (refused m j) same = refl

-- Three steps, whichever two are taken together.
then-then : {A B C : Type 0} (o : Outcome A) (g : A → Outcome B) (h : B → Outcome C) → then o (λ a. then (g a) h) ≡ then (then o g) h
unfolding then
then-then (done a) g h = refl
then-then (refused n i) g h = refl

module _ (text work codes : List ℕ) (f : Format) (c : Coded f codes) (few : length f.symbols ≤ 74) (small : Small text) (at rows taxa characters head : ℕ) (room : at + rows ≤ length work)
    (q : Pages) (p : Page) (k : Shaped taxa (names_stored text work (stored work at rows)) q p) (within_all : q.earlier ≤ characters) (i to : ℕ) where
  abbrev ns : List (List ℕ)
  ns = names_stored text work (stored work at rows)

  abbrev n : List ℕ
  n = name_at text work i

  -- The name that is stored for the row that stands there is that row's.
  same_name : (t : Taxon) (r : List Taxon) → p.below ≡ t ∷ r → name_at text work (get_or work (at + q.row) 0) ≡ t.name
  unfolding names names_stored stored
  same_name t r b =
      let all : ns ≡ names p.above ++ (t.name ∷ (names r ++ k.others)) = rw b at k.named ∙ append_assoc (names p.above) (t.name ∷ names r) k.others in
      let count : length (names p.above) ≡ q.row = length-names p.above ∙ k.row in
      let size : length ns ≡ rows = names-count text work at rows room in
      let more : length (names p.above ++ (t.name ∷ (names r ++ k.others))) ≡ length (names p.above) + suc (length (names r ++ k.others)) = length-append (names p.above) (t.name ∷ (names r ++ k.others)) in
      let whole : length ns ≡ length (names p.above ++ (t.name ∷ (names r ++ k.others))) = ap length all in
      let below : q.row < rows = omega arith in
      ap (name_at text work) (sym (get_or-take rows (drop at work) q.row 0 below ∙ get_or-drop at work q.row 0))
      ∙ sym (get_or-map (name_at text work) (take rows (drop at work)) q.row 0)
      ∙ ap (λ l. get_or l q.row (name_at text work 0)) all
      ∙ get_or_at (names p.above) t.name (names r ++ k.others) (name_at text work 0) q.row count

  -- What the code says of a name agrees with the row that the line goes on with.
  abbrev Agrees : Result ⊤ (Fault ℕ) → Outcome Taxon → Type 0
  Agrees (Ok tt) o = (t : Taxon) × (o ≡ done t) × Continues taxa ns q p n t
  Agrees (Err f) o = o ≡ refused f.0 f.1

  taxon-new : q.first ≡ true → line_taxon p i n ≡ pick (known n ns) (refused Refusal.TaxonTwice i) (done (record { name = n; cells = [] }))
  unfolding line_taxon new_taxon pick
  taxon-new e = rw (k.first, e, first-names taxa ns q p k n e)

  taxon-old : q.first ≡ false → (t : Taxon) (r : List Taxon) → p.below ≡ t ∷ r → line_taxon p i n ≡ pick (alike n t.name) (done t) (refused Refusal.Row i)
  unfolding line_taxon old_taxon pick
  taxon-old e t r b = rw (k.first, e, b)

  taxon-agrees : given (label (word_of text work i)) ≡ true → Agrees (line_name text work at rows q i) (line_taxon p i n)
  unfolding pick
  taxon-agrees e = by-test q.first new (λ d. old d p.below refl)
    where
      new : q.first ≡ true → Agrees (line_name text work at rows q i) (line_taxon p i n)
      new d =
          by-test (known n ns) (λ t. rw (← name-twice text work at rows q i e d t) (taxon-new d ∙ rw t))
          (λ t. rw (← name_new text work at rows q i e d t) (record { name = n; cells = [] }, taxon-new d ∙ rw t, first-continues taxa ns q p k n d))

      old : q.first ≡ false → (l : List Taxon) → p.below ≡ l → Agrees (line_name text work at rows q i) (line_taxon p i n)
      old d [] b =
          let z = k.later d in
          let all : length p.above + 0 ≡ taxa = rw b at z.0 in
          absurd (omega (arith, z.1))
      old d (t ∷ r) b =
          by-test (alike n t.name)
          (λ s. rw (← name-same text work at rows q i e d (rw (same_name t r b) s)) (t, taxon-old d t r b ∙ rw s, later-continues taxa ns q p k n d t r b))
          (λ s. rw (← name-other text work at rows q i e d (rw (same_name t r b) s)) (taxon-old d t r b ∙ rw s))

  name-agrees : Agrees (line_name text work at rows q i) (then (need (label (word_of text work i)) Refusal.NotName i) (λ m. line_taxon p i m))
  unfolding then need name_at
  name-agrees =
      by-test (given (label (word_of text work i))) (λ e. rw (label-some (word_of text work i) e) (taxon-agrees e))
      (λ e. rw (label-none (word_of text work i) e, ← name-none text work at rows q i e) refl)

  abbrev matrix : Shape
  matrix = record { taxa = taxa; characters = characters; format = f; head = head }

  abbrev line : Line
  line = record { first = word_of text work i; rest = to_newline (range text work (i + 1) to) }

  -- What the line comes to for the code, it comes to by the definition.
  abbrev pub Comes : Outcome Pages → Outcome Page → Type 0
  Comes (done r) o = (o ≡ done (with_line f taxa p (line_at text work f to i))) × Shaped taxa (ns ++ (n ∷ [])) r (with_line f taxa p (line_at text work f to i))
  Comes (refused m j) o = o ≡ refused m j

  -- The cells that are taken from the line.
  abbrev taken : List Cell
  taken = line_taken f (plain []) line.rest

  comes : (r : Outcome Pages) (o : Outcome Page) → Follows taxa ns q p k n f characters head within_all i taken r o → Comes r o
  unfolding line_at
  comes (done r) o h = h
  comes (refused m j) o h = h

  abbrev cells : Outcome (List Cell)
  cells = then (fold (chunk f) (plain []) line.rest) row_end

  abbrev counted : ℕ → Outcome Pages
  counted s = then (count_from codes (Chunk.Plain 0) (to_newline (range text work (s + 1) to))) (λ m. line_grown taxa characters q s m)

  row-comes : (j : Result ⊤ (Fault ℕ)) (o : Outcome Taxon) → Agrees j o
      → Comes (then (judged i j) counted) (then o (λ t. then cells (λ l. line_cells matrix p i t l)))
  unfolding then judged
  row-comes (Ok tt) o (t, e, g) =
      rw (e, ← cells-counted f codes c few line.rest (line_small text work small (i + 1) to))
      (comes (then (mapped length cells) (λ m. line_grown taxa characters q i m)) (then cells (λ l. line_cells matrix p i t l)) (line-follows taxa ns q p k n f characters head within_all i t g taken cells (ended-good f (plain []) line.rest)))
  row-comes (Err f) o e = rw e refl

  pub turn-comes : (left : ℕ) → length (lines_from false (range text work i to)) ≡ suc left
      → Comes (line_shape text work codes at rows taxa characters q i to) (line_turn matrix p line left)
  unfolding line_turn line_row line_shape page_short pick word_of
  turn-comes left e =
      rw (empty-count p.above, k.row, ← e)
      (by-test (eqb q.row 0 && ltb (length (lines_from false (range text work i to))) taxa) (λ t. rw t refl)
      (λ t. rw (t, then-then (need (label (word_of text work i)) Refusal.NotName i) (λ m. line_taxon p i m) (λ t. then cells (λ l. line_cells matrix p i t l)))
      (row-comes (line_name text work at rows q i) (then (need (label (word_of text work i)) Refusal.NotName i) (λ m. line_taxon p i m)) name-agrees)))
