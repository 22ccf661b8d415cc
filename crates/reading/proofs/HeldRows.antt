-- The rows of a matrix that is held: what its places are, the cells of a row as they are put, and the walks over the taxa. Assumes nothing.
use Rattle.std.specs.Prelude.{Some, None}
use Prim.Native.Nat.{ℕ, suc, ◌+◌, ◌-◌, ◌*◌, ◌%◌, ◌≤◌, ◌<◌}
use Rattle.assumptions.specs.NextWord.{Found}
use Rattle.block.specs.Chunk.{plain}
use Rattle.block.specs.Codes.{Coded}
use Rattle.block.specs.Commands.{words}
use Rattle.block.specs.Format.{Format}
use Rattle.block.specs.NamesHeld.{name_of, names_of}
use Rattle.block.specs.Reading.{Taxon}
use Rattle.commands.specs.MatrixHeld.{format_held, order_held, rows_of, untyped_held}
use Rattle.commands.specs.WorkMap.{map_fits, order_place}
use Rattle.commands.specs.declared.state.Held.{Held}
use Rattle.emit.proofs.PutLaws.{puts_none}
use Rattle.emit.specs.Puts.{Puts}
use Rattle.lexer.proofs.Basics.{pick_first}
use Rattle.lexer.specs.Base.{pick}
use Rattle.lexer.specs.Stored.{range, word_of}
use Rattle.matrix.specs.Lines.{name_at, row_at, stored}
use Rattle.matrix.specs.OrderHeld.{cells_at, ordered}
use Rattle.matrix.specs.Taken.{row_taken}
use Rattle.parser.proofs.MapFits.{fitting}
use Rattle.reading.proofs.LinesWalk.{stored_at}
use Rattle.reading.proofs.RowLaws.{cells-at, cells-past, no_taxon, pages-cells, row-lines, row-named, rows-counted, sequence-cells}
use Rattle.reading.proofs.TaxonPieces.{taxa-put}
use Rattle.reading.specs.Pieces.{spell_on}
use Rattle.reading.specs.RowLines.{FormatTold, cells_on, column, first_line, row_count}
use Rattle.record.specs.Spell.{spell_taxa}
use borrow.Author.Tests.{lt-ltb, ltb-false}
use lib.Dec.{ltb}
use lib.ListN.{length, get_or, take, drop, drop_of_length-le, length-drop}
use lib.Seq.{drop-cons, length-take-le, take-nil}
use mathlib.Core.Bool.{Bool, true, false, false≢true}
use mathlib.Core.List.{List, [], ◌∷◌}
use mathlib.Core.Path.{◌≡◌, refl, sym, ap, subst, ◌∙◌}
use native.Mathlib.Nat.{add-zero}
use native.Mathlib.Numerals.{add-one}
use native.Mathlib.Omega.{arith}

-- A row that is there: its first line is a line, and there is a taxon.
count-below : (b : Bool) (lines taxa r : ℕ) → r < row_count b lines taxa → (first_line b lines taxa r < lines) × (r < lines) × (b ≡ true → 1 ≤ taxa)
unfolding row_count first_line pick
count-below false lines taxa r h = (h, h, λ e. absurd (false≢true e))
count-below true lines taxa r h = go (ltb lines taxa) refl h
  where
    go : (t : Bool) → ltb lines taxa ≡ t → r < pick t 0 (taxa - lines % taxa) → (pick (ltb 0 taxa) (lines % taxa + r) r < lines) × (r < lines) × (true ≡ true → 1 ≤ taxa)
    go true e l = absurd (omega arith)
    go false e l =
        let many = ltb-false lines taxa e in
        let some : 1 ≤ taxa = omega arith in
        (rw (lt-ltb 0 taxa some) (omega arith), omega arith, λ _. some)

-- Where a map fits, the starts of all tokens are there.
pub tokens-taken : (work : List ℕ) (count lines taxa characters : ℕ) → map_fits (length work) count lines taxa characters ≡ true → count ≡ length (take count work)
tokens-taken work count lines taxa characters fit = sym (length-take-le count work (omega (arith, (fitting (length work) count lines taxa characters fit).order)))

module _ (size count lines taxa characters : ℕ) (fit : map_fits size count lines taxa characters ≡ true) (interleave : Bool) (rc r : ℕ) (e : rc ≡ row_count interleave lines taxa) (l : r < rc) where
  below : (first_line interleave lines taxa r < lines) × (r < lines) × (interleave ≡ true → 1 ≤ taxa)
  below = count-below interleave lines taxa r (omega arith)

  pub first-few : (lines ≤ 1048576) × (r ≤ 1048576)
  first-few = let p = fitting size count lines taxa characters fit in (p.few_lines, omega (arith, below.1, p.few_lines))

  module _ (first : ℕ) (at : first ≡ first_line interleave lines taxa r) where
    pub line-few : (first ≤ 1048576) × (count ≤ 1048576)
    line-few = let p = fitting size count lines taxa characters fit in (omega (arith, below.0, p.few_lines), p.few_tokens)

    pub lines-room : interleave ≡ true → (1 ≤ taxa) × (taxa ≤ 1048576) × (lines ≤ 1048576) × (first ≤ 2097152) × (count + lines ≤ size)
    lines-room i =
        let p = fitting size count lines taxa characters fit in
        (below.2 i, p.few_taxa, p.few_lines, omega (arith, line-few.0), omega (arith, p.order))

pub order-few : (size count lines taxa characters : ℕ) → map_fits size count lines taxa characters ≡ true → (count ≤ 1048576) × (lines ≤ 1048576) × (taxa ≤ 1048576)
order-few size count lines taxa characters fit = let p = fitting size count lines taxa characters fit in (p.few_tokens, p.few_lines, p.few_taxa)

pub characters-few : (size count lines taxa characters : ℕ) → map_fits size count lines taxa characters ≡ true → characters ≤ 1048576
characters-few size count lines taxa characters fit = (fitting size count lines taxa characters fit).few_characters

pub order-at : (size count lines taxa characters : ℕ) → map_fits size count lines taxa characters ≡ true → (order j : ℕ) → order ≡ order_place count lines taxa → j < taxa → order + j < 4194304
unfolding order_place
order-at size count lines taxa characters fit order j e l = let p = order-few size count lines taxa characters fit in omega (arith, p.0, p.1, p.2)

-- What is left to put, of the rows from a number on, or of the declared names from an index on: what puts that puts all.
module _ (text work codes : List ℕ) (count : ℕ) (h : Held) (interleave : Bool) (before : List ℕ) (n : ℕ) (buffer : List ℕ) (next : ℕ) where
  abbrev Left : List Taxon → List Taxon → Type 0
  Left all left =
      FormatTold text (take count work) codes h.style interleave → (after : List ℕ) (k : ℕ) → Puts buffer next (spell_taxa left) after k → Puts before n (spell_taxa all) after k

  abbrev pub RowsLeft : ℕ → Type 0
  RowsLeft r = Left (rows_of text work count h) (drop r (rows_of text work count h))

  abbrev pub WordsLeft : ℕ → ℕ → ℕ → ℕ → ℕ → Type 0
  WordsLeft from to order i j =
      Left (order_held text (take count work) work (order_place count h.lines h.taxa) h.taxa (Some (from, to)) (rows_of text work count h))
      (ordered (rows_of text work count h) work (order + j) (take (h.taxa - j) (names_of (words (range text (take count work) i to)))))

module _ (text work codes : List ℕ) (count : ℕ) (h : Held) (fit : map_fits (length work) count h.lines h.taxa h.characters ≡ true) where
  abbrev starts : List ℕ
  starts = stored work count h.lines

  abbrev front : List ℕ
  front = take count work

  abbrev f : Format
  f = format_held text front h.style

  abbrev rows : List Taxon
  rows = rows_of text work count h

  stored-length : length starts ≡ h.lines
  unfolding stored
  stored-length =
      let p = fitting (length work) count h.lines h.taxa h.characters fit in
      length-take-le h.lines (drop count work) (omega (arith, length-drop count work, p.order))

  module _ (interleave : Bool) where
    abbrev counted : ℕ
    counted = row_count interleave h.lines h.taxa

    abbrev Told : Type 0
    Told = FormatTold text front codes h.style interleave

    pub rows-laid : f.interleave ≡ interleave → length rows ≡ counted
    unfolding rows_of
    rows-laid l = rows-counted text front f h.to starts h.taxa h.characters interleave l ∙ ap (λ n. row_count interleave n h.taxa) stored-length

    rows-length : Told → length rows ≡ counted
    rows-length t = rows-laid t.layout

    module _ (rc r : ℕ) (e : rc ≡ counted) where
      pub row-none : {b : List ℕ} {n : ℕ} → rc ≤ r → Told → Puts b n (spell_on false (cells_at rows r)) b n
      unfolding spell_on
      row-none {b} {n} l t = subst (λ cs. Puts b n (spell_on false cs) b n) (sym (cells-past rows r (omega (arith, rows-length t)))) puts_none

      module _ (l : r < rc) where
        below_held : (first_line interleave h.lines h.taxa r < h.lines) × (r < h.lines) × (interleave ≡ true → 1 ≤ h.taxa)
        below_held = below (length work) count h.lines h.taxa h.characters fit interleave rc r e l

        module _ (first : ℕ) (at : first ≡ first_line interleave h.lines h.taxa r) where
          pub row-pages : {b c : List ℕ} {n k : ℕ} → interleave ≡ true
              → ((g : Format) → Coded g codes → length g.symbols ≤ 74 → (pages left : ℕ) → h.lines ≡ pages * h.taxa + left → left ≤ first → first < h.taxa
              → Puts b n (spell_on false (column (cells_on text front g h.to starts) h.taxa first pages)) c k)
              → Told → Puts b n (spell_on false (cells_at rows r)) c k
          unfolding rows_of row_count first_line pick
          row-pages {b} {c} {n} {k} i put t =
              let within : r < row_count true (length starts) h.taxa = subst (λ x. r < x) (e ∙ ap (λ x. row_count x h.lines h.taxa) i ∙ ap (λ x. row_count true x h.taxa) (sym stored-length)) l in
              let w = row-lines text front f h.to starts h.taxa r within in
              let place : first ≡ length starts % h.taxa + r = at ∙ ap (λ x. first_line x h.lines h.taxa r) i ∙ pick_first (ltb 0 h.taxa) (h.lines % h.taxa + r) r (lt-ltb 0 h.taxa (below_held.2 i)) ∙ ap (λ x. x % h.taxa + r) (sym stored-length) in
              let cells : cells_at rows r ≡ column (cells_on text front f h.to starts) h.taxa first w.pages = pages-cells text front f h.to starts h.taxa h.characters r (t.layout ∙ i) w ∙ ap (λ x. column (cells_on text front f h.to starts) h.taxa x w.pages) (sym place) in
              subst (λ cs. Puts b n (spell_on false cs) c k) (sym cells) (put f t.coded t.few w.pages (length starts % h.taxa) (sym stored-length ∙ w.count) (omega arith) (omega (arith, w.below)))

          pub row-sequence : {b c : List ℕ} {n k : ℕ} (from : ℕ) → interleave ≡ false → from ≡ get_or work (count + first) 0 + 1
              → ((g : Format) → Coded g codes → length g.symbols ≤ 74 → Puts b n (spell_on false (row_taken g h.characters (plain []) (words (range text front from h.to)))) c k)
              → Told → Puts b n (spell_on false (cells_at rows r)) c k
          unfolding rows_of first_line pick row_at
          row-sequence {b} {c} {n} {k} from i s put t =
              let here : first ≡ r = at ∙ ap (λ x. first_line x h.lines h.taxa r) i in
              let same : get_or starts r 0 + 1 ≡ from = ap (λ x. x + 1) (stored_at work count h.lines r below_held.1 ∙ ap (λ x. get_or work (count + x) 0) (sym here)) ∙ sym s in
              let cells : cells_at rows r ≡ row_taken f h.characters (plain []) (words (range text front from h.to)) = sequence-cells text front f h.to starts h.taxa h.characters r (t.layout ∙ i) (omega (arith, below_held.1, stored-length)) ∙ ap (λ x. row_taken f h.characters (plain []) (words (range text front x h.to))) same in
              subst (λ cs. Puts b n (spell_on false cs) c k) (sym cells) (put f t.coded t.few)

      -- A row under the name of its first line, and the rows behind it.
      row-held : r < rc → (first i : ℕ) → first ≡ first_line interleave h.lines h.taxa r → i ≡ get_or work (count + first) 0 → Told
          → drop r rows ≡ record { name = name_of (word_of text front i); cells = cells_at rows r } ∷ drop (r + 1) rows
      unfolding rows_of name_at name_of
      row-held l first i at s t =
          let within : r < row_count interleave (length starts) h.taxa = subst (λ x. r < x) (e ∙ ap (λ x. row_count interleave x h.taxa) (sym stored-length)) l in
          let line : get_or starts (first_line interleave (length starts) h.taxa r) 0 ≡ i = ap (λ x. get_or starts (first_line interleave x h.taxa r) 0) stored-length ∙ ap (λ x. get_or starts x 0) (sym at) ∙ stored_at work count h.lines first (omega (arith, (below_held l).0)) ∙ sym s in
          let named : (get_or rows r no_taxon).name ≡ name_of (word_of text front i) = row-named text front f h.to starts h.taxa h.characters r interleave t.layout within ∙ ap (name_at text front) line in
          let this : get_or rows r no_taxon ≡ record { name = name_of (word_of text front i); cells = cells_at rows r } = λ d. record { name = named d; cells = sym (cells-at rows r) d } in
          drop-cons rows r no_taxon (omega (arith, rows-length t)) ∙ ap (λ x. x ∷ drop (suc r) rows) this ∙ ap (λ x. record { name = name_of (word_of text front i); cells = cells_at rows r } ∷ drop x rows) (sym (add-one r))

    -- So many rows are put, and what puts the others puts all.
    module _ (before : List ℕ) (n : ℕ) where
      pub rows-turn : (rc r : ℕ) (e : rc ≡ counted) (l : r < rc) (first i : ℕ) → first ≡ first_line interleave h.lines h.taxa r → i ≡ get_or work (count + first) 0
          → {buffer buffer' : List ℕ} {next next' : ℕ} → RowsLeft text work codes count h interleave before n buffer next r
          → (Told → Puts buffer next (spell_taxa (record { name = name_of (word_of text front i); cells = cells_at rows r } ∷ [])) buffer' next')
          → RowsLeft text work codes count h interleave before n buffer' next' (r + 1)
      rows-turn rc r e l first i at s {buffer} {buffer'} {next} {next'} left put t after k p =
          left t after k (subst (λ x. Puts buffer next (spell_taxa x) after k) (sym (row-held rc r e l first i at s t)) (taxa-put _ (drop (r + 1) rows) (put t) p))

      pub rows_end : (rc r : ℕ) → rc ≡ counted → rc ≤ r → {buffer : List ℕ} {next : ℕ} → RowsLeft text work codes count h interleave before n buffer next r → Told → Puts before n (spell_taxa rows) buffer next
      unfolding spell_taxa
      rows_end rc r e l {buffer} {next} left t =
          left t buffer next (subst (λ x. Puts buffer next (spell_taxa x) buffer next) (sym (drop_of_length-le rows {i = r} (omega (arith, rows-length t)))) puts_none)

    -- So many declared names are passed, up to an index, and what puts the taxa of the others puts all.
    module _ (before : List ℕ) (n from to order : ℕ) (p : order ≡ order_place count h.lines h.taxa) where
      abbrev all : List Taxon
      all = order_held text front work (order_place count h.lines h.taxa) h.taxa (Some (from, to)) rows

      abbrev left_from : ℕ → ℕ → List Taxon
      left_from i j = ordered rows work (order + j) (take (h.taxa - j) (names_of (words (range text front i to))))

      pub words-start : WordsLeft text work codes count h interleave before n before n from to order from 0
      unfolding order_held
      words-start t after k q =
          let names = names_of (words (range text front from to)) in
          let none : h.taxa - 0 ≡ h.taxa = omega arith in
          subst (λ x. Puts before n (spell_taxa (ordered rows work (order_place count h.lines h.taxa) (take x names))) after k) none
          (subst (λ x. Puts before n (spell_taxa (ordered rows work x (take (h.taxa - 0) names))) after k) (add-zero order ∙ p) q)

      module _ {buffer : List ℕ} {next : ℕ} (i j : ℕ) (left : WordsLeft text work codes count h interleave before n buffer next from to order i j) where
        none_left : left_from i j ≡ [] → Told → Puts before n (spell_taxa all) buffer next
        unfolding spell_taxa
        none_left e t = left t buffer next (subst (λ x. Puts buffer next (spell_taxa x) buffer next) (sym e) puts_none)

        pub words-end : h.taxa ≤ j → Told → Puts before n (spell_taxa all) buffer next
        unfolding ordered
        words-end l = let none : h.taxa - j ≡ 0 = omega arith in none_left (ap (λ x. ordered rows work (order + j) (take x (names_of (words (range text front i to))))) none)

        pub words-over : words (range text front i to) ≡ [] → Told → Puts before n (spell_taxa all) buffer next
        unfolding ordered names_of
        words-over past = none_left (ap (λ x. ordered rows work (order + j) (take (h.taxa - j) (names_of x))) past ∙ ap (ordered rows work (order + j)) (take-nil (h.taxa - j)))

        module _ (word : ℕ) (found : Found text front i to word) where
          pub words-turn : j < h.taxa → (r : ℕ) → r ≡ get_or work (order + j) 0 → {buffer' : List ℕ} {next' : ℕ}
              → (Told → Puts buffer next (spell_taxa (record { name = name_of (word_of text front word); cells = cells_at rows r } ∷ [])) buffer' next')
              → WordsLeft text work codes count h interleave before n buffer' next' from to order (word + 1) (j + 1)
          unfolding ordered names_of
          words-turn l r s {buffer'} {next'} put t after k q =
              let names = names_of (words (range text front (word + 1) to)) in
              let one : h.taxa - j ≡ suc (h.taxa - (j + 1)) = omega arith in
              let on : suc (order + j) ≡ order + (j + 1) = omega arith in
              let this : Taxon = record { name = name_of (word_of text front word); cells = cells_at rows r } in
              let split : left_from i j ≡ this ∷ left_from (word + 1) (j + 1) =
              ap (λ x. ordered rows work (order + j) (take (h.taxa - j) (names_of x))) found.here
              ∙ ap (λ x. ordered rows work (order + j) (take x (name_of (word_of text front word) ∷ names))) one
              ∙ ap (λ x. record { name = name_of (word_of text front word); cells = cells_at rows x } ∷ ordered rows work (suc (order + j)) (take (h.taxa - (j + 1)) names)) (sym s)
              ∙ ap (λ x. this ∷ ordered rows work x (take (h.taxa - (j + 1)) names)) on in
              left t after k (subst (λ x. Puts buffer next (spell_taxa x) after k) (sym split) (taxa-put this (left_from (word + 1) (j + 1)) (put t) q))

-- The taxa are the rows, or those of the declared names.
module _ (text work : List ℕ) (count : ℕ) (h : Held) {b c : List ℕ} {n k : ℕ} where
  pub taxa-none : h.names ≡ None → Puts b n (spell_taxa (rows_of text work count h)) c k → Puts b n (spell_taxa (untyped_held text work count h).taxa) c k
  unfolding untyped_held order_held
  taxa-none e put = subst (λ x. Puts b n (spell_taxa (order_held text (take count work) work (order_place count h.lines h.taxa) h.taxa x (rows_of text work count h))) c k) (sym e) put

  pub taxa-words : (from to : ℕ) → h.names ≡ Some (from, to)
      → Puts b n (spell_taxa (order_held text (take count work) work (order_place count h.lines h.taxa) h.taxa (Some (from, to)) (rows_of text work count h))) c k
      → Puts b n (spell_taxa (untyped_held text work count h).taxa) c k
  unfolding untyped_held
  taxa-words from to e put = subst (λ x. Puts b n (spell_taxa (order_held text (take count work) work (order_place count h.lines h.taxa) h.taxa x (rows_of text work count h))) c k) (sym e) put
