-- The walk over the words of a row that is put: the row so far and the words from here on have the cells of the whole. Assumes nothing.
use Prim.Native.Nat.{ℕ, ◌+◌, ◌≤◌, ◌<◌}
use Rattle.block.proofs.OutcomeLaws.{all-at, all_replicate}
use Rattle.block.proofs.WalkLaws.{words-end, words-newline, words-next}
use Rattle.block.specs.Cell.{Cell}
use Rattle.block.specs.Chunk.{Row, plain, set_cell, within}
use Rattle.block.specs.Codes.{Coded}
use Rattle.block.specs.Commands.{newline, words}
use Rattle.block.specs.Format.{Format}
use Rattle.block.specs.Interleaved.{to_newline}
use Rattle.block.specs.declared.kinds.Bracket.{Bracket}
use Rattle.lexer.proofs.Basics.{not-both}
use Rattle.lexer.proofs.SmallBytes.{Small, token-small}
use Rattle.lexer.specs.Base.{pick}
use Rattle.lexer.specs.Stored.{range, word_of}
use Rattle.lexer.specs.Words.{Numbered}
use Rattle.matrix.proofs.LineLaws.{line-next, line-none, line-stops}
use Rattle.matrix.proofs.SetLaws.{close-line, open-line, states-line}
use Rattle.matrix.specs.Taken.{cells_in, line_taken, row_after, row_taken, taken, word_taken}
use Rattle.matrix.specs.WholeSets.{WholeSet}
use Rattle.reading.proofs.CodesRead.{word_read}
use Rattle.reading.proofs.RowPieces.{row-none, row-then}
use Rattle.reading.proofs.RowSteps.{none-set}
use Rattle.reading.proofs.SetMarks.{members-none}
use Rattle.reading.proofs.WholePuts.{set-ends, set-grows, set-opens}
use Rattle.reading.specs.CodedCells.{codes_of, word_coded}
use Rattle.reading.specs.Pieces.{spell_on}
use Rattle.reading.specs.RowLines.{CodedPuts}
use Rattle.reading.specs.RowWalk.{SetPut, StepPut, Walking, WordPut, begun, full, full_with, one_word, open_in, states_in, whole_set}
use Rattle.reading.specs.declared.cells.Putting.{Putting}
use Rattle.reading.specs.declared.lines.Walk.{Walk}
use borrow.Author.Tests.{eqb-false, eqb-true, le-leb, lt-leb}
use lib.ListN.{length, get_or, length-replicate, replicate}
use mathlib.Core.Bool.{Bool, true, false}
use mathlib.Core.List.{List, [], ◌∷◌, ◌++◌}
use mathlib.Core.Path.{◌≡◌, refl, sym, ap, ◌∙◌}
use native.Mathlib.Omega.{arith}

-- A row was put, and with the words from here on it has the cells of the whole.
pub record Reaching (before : List ℕ) (from : Putting) (whole : List Cell) (rest : Row → List Cell) (buffer set : List ℕ) (walk : Walk) : Type 0 where
  pub row : Row
  pub walking : Walking before from row buffer set walk
  pub reaches : rest row ≡ whole

-- So it is for every format that has these codes; the buffer keeps its length, and the end of the marks is at most their count.
pub record Rowing (codes before : List ℕ) (from : Putting) (whole : Format → List Cell) (rest : Format → Row → List Cell) (buffer set : List ℕ) (walk : Walk) : Type 0 where
  pub kept : length buffer ≡ length before
  pub low : walk.top ≤ 96
  pub goes : (f : Format) → Coded f codes → length f.symbols ≤ 74 → Reaching before from (whole f) (rest f) buffer set walk

-- The marks of a set without states.
abbrev no-marks : List ℕ
no-marks = replicate 96 0

unmarked : (k : ℕ) → get_or no-marks k 0 ≡ 0
unmarked k = all-at (λ (n : ℕ). n ≡ 0) no-marks k 0 (all_replicate (λ (n : ℕ). n ≡ 0) 96 0 refl) refl

-- Before the first word nothing was put, no set is open, and all marks are 0.
pub rowing_start : {codes before : List ℕ} {n : ℕ} {started : Bool} {left : ℕ} (rest : Format → Row → List Cell) (walk : Walk) → walk ≡ begun n started left
    → Rowing codes before (begun n started left).row (λ f. rest f (plain [])) rest before no-marks walk
unfolding cells_in open_in states_in
rowing_start rest walk e =
    rw e
    (record {
      kept = refl;
      low = omega arith;
      goes = λ f c few.
          record { row = plain []; walking = record { put = row-none; opened = refl; size = length-replicate {A = ℕ} 96 0; marked = members-none 0 no-marks unmarked; clean = λ k le. unmarked k }; reaches = refl };
    })

module _ {codes before : List ℕ} {from : Putting} {whole : Format → List Cell} {rest : Format → Row → List Cell} {buffer set : List ℕ} {walk : Walk}
    (k : Rowing codes before from whole rest buffer set walk) where
  -- What follows, by another name.
  pub rowing-as : {more : Format → Row → List Cell} → ((f : Format) (row : Row) → Walking before from row buffer set walk → rest f row ≡ more f row)
      → Rowing codes before from whole more buffer set walk
  rowing-as e =
      record {
        kept = k.kept;
        low = k.low;
        goes = λ f c few. let g = k.goes f c few in record { row = g.row; walking = g.walking; reaches = sym (e f g.row g.walking) ∙ g.reaches };
      }

  -- One word more.
  rowing-turn : {more : Format → Row → List Cell} {after marks : List ℕ} {next : Walk} (w : Numbered) → Small w.token.text
      → ((f : Format) (row : Row) → rest f row ≡ more f (taken f row w)) → WordPut codes w buffer set walk after marks next
      → Rowing codes before from whole more after marks next
  rowing-turn w small e p =
      record {
        kept = p.kept ∙ k.kept;
        low = p.within;
        goes = λ f c few.
            let g = k.goes f c few in
            record {
              row = taken f g.row w;
              walking = p.grown f (word_read f few codes c w small) before from g.row g.walking;
              reaches = sym (e f g.row) ∙ g.reaches;
            };
      }

  -- A whole set more.
  rowing-set : {text starts : List ℕ} {to i : ℕ} {more : Format → Row → List Cell} {after marks : List ℕ} {next : Walk} (p : SetPut codes text starts to i buffer set walk after marks next)
      → Small (word_of text starts (i + 1)).token.text
      → ((f : Format) → word_coded codes (word_of text starts (i + 1)) ≡ word_taken f (word_of text starts (i + 1)) → (cells : List Cell)
      → rest f (plain cells) ≡ more f (plain (cells ++ (set_cell p.kind (codes_of codes p.states) ∷ []))))
      → Rowing codes before from whole more after marks next
  unfolding cells_in open_in states_in
  rowing-set {text} {starts} {i = i} {more} {after} {marks} {next} p small e =
      record {
        kept = p.put.put.kept ∙ k.kept;
        low = rw p.top k.low;
        goes = λ f c few. let g = k.goes f c few in go f (word_read f few codes c (word_of text starts (i + 1)) small) g.row g.walking g.reaches;
      }
    where
      go : (f : Format) → word_coded codes (word_of text starts (i + 1)) ≡ word_taken f (word_of text starts (i + 1)) → (row : Row) → Walking before from row buffer set walk
          → rest f row ≡ whole f → Reaching before from (whole f) (more f) after marks next
      go f same (plain cells) w r =
          record {
            row = plain (cells ++ (set_cell p.kind (codes_of codes p.states) ∷ []));
            walking = record { put = row-then w.put p.put; opened = p.opened; size = rw p.same w.size; marked = rw p.same w.marked; clean = rw (p.same, p.top) w.clean };
            reaches = sym (e f same cells) ∙ r;
          }
      go f same (within cells l j s) w r = none-set walk.opened l p.none w.opened

  -- No word is left.
  pub rowing-end : ((f : Format) (row : Row) → Walking before from row buffer set walk → rest f row ≡ cells_in row)
      → CodedPuts codes before from.at (λ f. spell_on from.started (whole f)) buffer walk.row.at
  rowing-end e =
      record {
        kept = k.kept;
        put = λ f c few. let g = k.goes f c few in rw (sym (sym (e f g.row g.walking) ∙ g.reaches)) g.walking.put.put;
      }

-- A row that is full, with no set open, takes no word more; any other goes on.
module _ {before : List ℕ} {from : Putting} (row : Row) {buffer set : List ℕ} {walk : Walk} (more : Row → List Cell) (g : Walking before from row buffer set walk) where
  full-stops : full walk ≡ true → row_after from.left row more ≡ cells_in row
  unfolding full full_with open_in cells_in row_after pick
  full-stops e = go row g (rw g.opened at e)
    where
      go : (row : Row) → Walking before from row buffer set walk → full_with (open_in row) walk.row.left ≡ true → row_after from.left row more ≡ cells_in row
      go (plain cells) g e = let none = eqb-true walk.row.left 0 e in rw (le-leb from.left (length cells) (omega (arith, g.put.lacking)))
      go (within cells k i s) g e = not-both refl e

  full-goes : full walk ≡ false → row_after from.left row more ≡ more row
  unfolding full full_with open_in cells_in row_after pick
  full-goes e = go row g (rw g.opened at e)
    where
      go : (row : Row) → Walking before from row buffer set walk → full_with (open_in row) walk.row.left ≡ false → row_after from.left row more ≡ more row
      go (plain cells) g e = let some = eqb-false walk.row.left 0 e in rw (lt-leb from.left (length cells) (omega (arith, g.put.lacking, some)))
      go (within cells k i s) g e = refl

-- The cells that a row has with the words of its line from an index on, and with the words from an index on until it is full.
abbrev pub LineLeft : List ℕ → List ℕ → ℕ → ℕ → Format → Row → List Cell
LineLeft text starts to i f row = line_taken f row (to_newline (range text starts i to))

abbrev pub WordsLeft : List ℕ → List ℕ → ℕ → ℕ → ℕ → Format → Row → List Cell
WordsLeft text starts to n i f row = row_taken f n row (words (range text starts i to))

module _ (text starts : List ℕ) (to i : ℕ) where
  abbrev word : Numbered
  word = word_of text starts i

  -- Behind the last word no cells are added.
  pub line-over : to ≤ i → (f : Format) (row : Row) → LineLeft text starts to i f row ≡ cells_in row
  unfolding line_taken
  line-over h f row = rw (line-none text starts i to h)

  pub words-over : (n : ℕ) → to ≤ i → (f : Format) (row : Row) → WordsLeft text starts to n i f row ≡ cells_in row
  unfolding row_taken
  words-over n h f row = rw (words-end text starts i to h)

  -- The bytes of a word are below 256 if those of the text are.
  bytes : Small text → Small word.token.text
  unfolding word_of
  bytes small = token-small text (get_or starts i 0) small

  module _ (h : i < to) where
    -- A newline ends a line, and is passed over by a row that ends when it is full.
    pub line-newline : newline word ≡ true → (f : Format) (row : Row) → LineLeft text starts to i f row ≡ cells_in row
    unfolding line_taken
    line-newline e f row = rw (line-stops text starts i to h e)

    pub words-pass : (n : ℕ) → newline word ≡ true → (f : Format) (row : Row) → WordsLeft text starts to n i f row ≡ WordsLeft text starts to n (i + 1) f row
    words-pass n e f row = rw (words-newline text starts i to h e)

    module _ (small : Small text) (e : newline word ≡ false) {codes before : List ℕ} {from : Putting} {whole : Format → List Cell} {buffer set : List ℕ} {walk : Walk}
        {after marks : List ℕ} {next : Walk} (p : WordPut codes word buffer set walk after marks next) where
      -- Any other word is put. A line goes on; a row goes on where it is not full.
      line-turn : Rowing codes before from whole (LineLeft text starts to i) buffer set walk → Rowing codes before from whole (LineLeft text starts to (i + 1)) after marks next
      unfolding line_taken
      line-turn k = rowing-turn k word (bytes small) (λ f row. rw (line-next text starts i to h e)) p

      module _ (k : Rowing codes before from whole (WordsLeft text starts to from.left i) buffer set walk) where
        words-turn : Rowing codes before from whole (λ f row. row_after from.left row (WordsLeft text starts to from.left (i + 1) f)) after marks next
        unfolding row_taken
        words-turn = rowing-turn k word (bytes small) (λ f row. rw (words-next text starts i to h e)) p

-- The words of a whole set.
module _ (text starts : List ℕ) (to : ℕ) (f : Format) where
  -- One word more: of a line, of a row whose set is open behind it, and of a row in which none is.
  line-one : (i j : ℕ) (row : Row) {next : Row} → j ≡ i + 1 → i < to → newline (word_of text starts i) ≡ false → taken f row (word_of text starts i) ≡ next
      → LineLeft text starts to i f row ≡ LineLeft text starts to j f next
  unfolding line_taken
  line-one i j row {next} e h w t =
      rw (line-next text starts i to h w) (ap (λ r. line_taken f r (to_newline (range text starts (i + 1) to))) t ∙ ap (λ n. LineLeft text starts to n f next) (sym e))

  module _ (n i j : ℕ) (row : Row) (e : j ≡ i + 1) (h : i < to) (w : newline (word_of text starts i) ≡ false) where
    words-within : {cells : List Cell} {k : Bracket} {m : ℕ} {s : List ℕ} → taken f row (word_of text starts i) ≡ within cells k m s
        → WordsLeft text starts to n i f row ≡ WordsLeft text starts to n j f (within cells k m s)
    unfolding row_taken row_after
    words-within t = rw (words-next text starts i to h w, t, e) refl

    words-plain : {cells : List Cell} → taken f row (word_of text starts i) ≡ plain cells → WordsLeft text starts to n i f row ≡ row_after n (plain cells) (WordsLeft text starts to n j f)
    unfolding row_taken
    words-plain t = rw (words-next text starts i to h w, t, e) refl

  module _ {codes : List ℕ} {i : ℕ} {k : Bracket} {states : List ℕ} (s : WholeSet codes text starts i to k states)
      (same : word_coded codes (word_of text starts (i + 1)) ≡ word_taken f (word_of text starts (i + 1))) (cells : List Cell) where
    abbrev whole : Row
    whole = plain (cells ++ (set_cell k (codes_of codes states) ∷ []))

    line_set : (j : ℕ) → j ≡ i + 3 → LineLeft text starts to i f (plain cells) ≡ LineLeft text starts to j f whole
    line_set j e =
        let room = s.room in
        line-one i (i + 1) (plain cells) refl (omega arith) (open-line s) (set-opens s f cells)
        ∙ line-one (i + 1) (i + 2) (within cells k i []) (omega arith) (omega arith) (states-line s) (set-grows s f cells same)
        ∙ line-one (i + 2) j (within cells k i (codes_of codes states)) (omega arith) room (close-line s) (set-ends s f cells)

    words-set : (n j : ℕ) → j ≡ i + 3 → WordsLeft text starts to n i f (plain cells) ≡ row_after n whole (WordsLeft text starts to n j f)
    words-set n j e =
        let room = s.room in
        words-within n i (i + 1) (plain cells) refl (omega arith) (open-line s) (set-opens s f cells)
        ∙ words-within n (i + 1) (i + 2) (within cells k i []) (omega arith) (omega arith) (states-line s) (set-grows s f cells same)
        ∙ words-plain n (i + 2) j (within cells k i (codes_of codes states)) (omega arith) room (close-line s) (set-ends s f cells)

-- One word more, or a whole set: a line goes on, and a row goes on where it is not full.
module _ {codes text starts : List ℕ} {to i : ℕ} {before : List ℕ} {from : Putting} {whole : Format → List Cell} {buffer set : List ℕ} {walk : Walk} {after marks : List ℕ} {next : Walk}
    (h : i < to) (small : Small text) (w : newline (word_of text starts i) ≡ false) where
  pub line_step : {j : ℕ} → StepPut codes text starts to i buffer set walk after marks next j → Rowing codes before from whole (LineLeft text starts to i) buffer set walk
      → Rowing codes before from whole (LineLeft text starts to j) after marks next
  line_step (one_word e p) k = rw e (line-turn text starts to i h small w p k)
  line_step {j} (whole_set e p) k = rowing-set k p (bytes text starts to (i + 1) small) (λ f same cells. line_set text starts to f p.words same cells j e)

  words_step : {j : ℕ} → StepPut codes text starts to i buffer set walk after marks next j → Rowing codes before from whole (WordsLeft text starts to from.left i) buffer set walk
      → Rowing codes before from whole (λ f row. row_after from.left row (WordsLeft text starts to from.left j f)) after marks next
  words_step (one_word e p) k = rw e (words-turn text starts to i h small w p k)
  words_step {j} (whole_set e p) k = rowing-set k p (bytes text starts to (i + 1) small) (λ f same cells. words-set text starts to f p.words same cells from.left j e)

  module _ {j : ℕ} (p : StepPut codes text starts to i buffer set walk after marks next j) (k : Rowing codes before from whole (WordsLeft text starts to from.left i) buffer set walk) where
    pub step-stop : full next ≡ true → CodedPuts codes before from.at (λ f. spell_on from.started (whole f)) after next.row.at
    step-stop t = rowing-end (words_step p k) (λ f row g. full-stops row (WordsLeft text starts to from.left j f) g t)

    pub step-on : full next ≡ false → Rowing codes before from whole (WordsLeft text starts to from.left j) after marks next
    step-on t = rowing-as (words_step p k) (λ f row g. full-goes row (WordsLeft text starts to from.left j f) g t)

-- A step goes on.
pub step-ahead : {codes text starts : List ℕ} {to i : ℕ} {buffer set : List ℕ} {walk : Walk} {after marks : List ℕ} {next : Walk} {j : ℕ}
    → StepPut codes text starts to i buffer set walk after marks next j → i < j
step-ahead (one_word e p) = omega arith
step-ahead (whole_set e p) = omega arith

-- The buffer keeps its length, and the end of the marks is at most their count.
pub step_kept : {codes text starts : List ℕ} {to i : ℕ} {buffer set : List ℕ} {walk : Walk} {after marks : List ℕ} {next : Walk} {j : ℕ}
    → StepPut codes text starts to i buffer set walk after marks next j → length after ≡ length buffer
step_kept (one_word e p) = p.kept
step_kept (whole_set e p) = p.put.put.kept
