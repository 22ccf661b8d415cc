-- Lexing the rows of a matrix, where each sign is a valid symbol: `+` is a token of its own, any other joins the word that begins right
-- behind it. Assumes nothing.
use Prim.Native.Nat.{ℕ}
use Rattle.block.proofs.RisingLaws.{rising-first, rising-rest}
use Rattle.block.specs.Cell.{Cell, state, uncertain, polymorphic, missing, gap}
use Rattle.block.specs.Format.{valid_symbol}
use Rattle.block.specs.Reading.{Taxon}
use Rattle.block.specs.Sequential.{names}
use Rattle.block.specs.declared.data.DataType.{DataType}
use Rattle.lexer.proofs.Basics.{and_left, and_right, by-test}
use Rattle.lexer.specs.Base.{is_empty}
use Rattle.lexer.specs.Classes.{symbol}
use Rattle.lexer.specs.Run.{run_tokens}
use Rattle.lexer.specs.Tokens.{Token}
use Rattle.lexer.specs.declared.Mode.{Mode}
use Rattle.lexer.specs.declared.Symbol.{Symbol}
use Rattle.record.proofs.FormTokens.{word, mark, newline, joined, joined_kind, sign_joined, set_tokens, cell_tokens, cells_tokens, rows_tokens}
use Rattle.record.proofs.PlainBytes.{is_plain, valid-plain}
use Rattle.record.proofs.QuotedLexed.{quoted-lexed}
use Rattle.record.proofs.SignsValid.{Signs}
use Rattle.record.proofs.WordsLexed.{Lexes, Inside, text-lexed, blank-parts, mark-parts, plain-inside, plain-lexed}
use Rattle.record.specs.Form.{sign, form_set, form_cell, form_cells, form_rows, missing_sign, gap_sign}
use Rattle.block.specs.Sound.{rising, sound_set, sound_cell, sound_cells, sound_rows, sound_name, sound_names, is_gap, gap_among, gap_in}
use borrow.Author.Tests.{eqb-true, lt-ltb}
use lib.Dec.{eqb, ltb}
use lib.ListN.{length}
use mathlib.Core.Bool.{Bool, true, not, or-true}
use mathlib.Core.List.{List, [], ◌∷◌}
use mathlib.Core.Path.{◌≡◌, refl}

-- The text has these tokens, and a byte of a word that stands right before it joins them.
record Joins (text : List ℕ) (ts : List Token) : Type 0 where
  between : Lexes text ts
  rest : List ℕ
  more : List Token
  inside : Inside Mode.Word text rest more
  joins : (b : ℕ) → word (b ∷ rest) ∷ more ≡ joined b ts

-- Nothing joins a newline or a mark.
newline-joins : {r : List ℕ} {ts : List Token} → Lexes r ts → Joins (10 ∷ r) (newline ∷ ts)
unfolding run_tokens joined joined_kind
newline-joins {r} {ts} e =
    record {
      between = text-lexed (10 ∷ []) (newline ∷ []) (λ x. refl) (λ x. refl) e;
      rest = [];
      more = newline ∷ ts;
      inside = record { ends = refl; tokens = rw e.tokens };
      joins = λ b. refl;
    }

mark-joins : (m : ℕ) {r : List ℕ} {ts : List Token}
    → ltb m 128 ≡ true → symbol m r ≡ Symbol.Punctuation → Joins r ts → Joins (m ∷ r) (mark m ∷ ts)
unfolding joined joined_kind
mark-joins m {r} {ts} a s e =
    let p = mark-parts m a s e.between in
    record { between = p.between; rest = []; more = mark m ∷ ts; inside = p.word; joins = λ b. refl }

plain-joins : (b : ℕ) {r : List ℕ} {ts : List Token} → is_plain b ≡ true → Joins r ts → Joins (b ∷ r) (joined b ts)
unfolding joined joined_kind
plain-joins b p e =
    record {
      between = rw (← e.joins b) (plain-lexed b p e.between.well_formed e.inside);
      rest = b ∷ e.rest;
      more = e.more;
      inside = plain-inside b p e.inside;
      joins = λ c. rw (← e.joins b);
    }

sign-joins : (b : ℕ) {r : List ℕ} {ts : List Token} → valid_symbol b ≡ true → Joins r ts → Joins (b ∷ r) (sign_joined b ts)
unfolding sign_joined run_tokens
sign-joins b v e =
    by-test (eqb b 43) (λ t. rw (t, eqb-true b 43 t) (mark-joins 43 refl refl e)) (λ f. rw f (plain-joins b (valid-plain b v f) e))

module _ {t : DataType} {symbols : List ℕ} {gaps : Bool} (v : Signs t symbols gaps) where
  set-joins : (s : List ℕ) {r : List ℕ} {ts : List Token}
      → rising (length symbols) s ≡ true → Joins r ts → Joins (form_set symbols s r) (set_tokens symbols s ts)
  unfolding form_set set_tokens
  set-joins [] h e = e
  set-joins (i ∷ s) h e =
      sign-joins (sign symbols i) (v.states i (lt-ltb i (length symbols) (rising-first (length symbols) i s h)))
      (set-joins s (rising-rest (length symbols) i s h) e)

  cell-joins : (c : Cell) {r : List ℕ} {ts : List Token}
      → sound_cell (length symbols) c ≡ true
      → (is_gap c ≡ true → gaps ≡ true)
      → Joins r ts
      → Joins (form_cell t symbols c r) (cell_tokens t symbols c ts)
  unfolding form_cell cell_tokens sound_cell sound_set is_gap run_tokens
  cell-joins (state i) h g e = sign-joins (sign symbols i) (v.states i h) e
  cell-joins (uncertain s) h g e =
      mark-joins 123 refl refl (set-joins s (and_right (not (is_empty s)) (rising (length symbols) s) h) (mark-joins 125 refl refl e))
  cell-joins (polymorphic s) h g e =
      mark-joins 40 refl refl (set-joins s (and_right (not (is_empty s)) (rising (length symbols) s) h) (mark-joins 41 refl refl e))
  cell-joins missing h g e = sign-joins (missing_sign t symbols) v.missing e
  cell-joins gap h g e = sign-joins (gap_sign t symbols) (v.gap (g refl)) e

  cells-join : (cs : List Cell) {r : List ℕ} {ts : List Token}
      → sound_cells (length symbols) cs ≡ true
      → (gap_among cs ≡ true → gaps ≡ true)
      → Joins r ts
      → Joins (form_cells t symbols cs r) (cells_tokens t symbols cs ts)
  unfolding form_cells cells_tokens sound_cells gap_among
  cells-join [] h g e = e
  cells-join (c ∷ cs) h g e =
      cell-joins c (and_left (sound_cell (length symbols) c) (sound_cells (length symbols) cs) h) (λ y. g (rw y))
      (cells-join cs (and_right (sound_cell (length symbols) c) (sound_cells (length symbols) cs) h) (λ y. g (rw y (or-true (is_gap c)))) e)

  pub rows-lexed : (xs : List Taxon) {r : List ℕ} {ts : List Token}
      → sound_rows (length symbols) xs ≡ true
      → sound_names (names xs) ≡ true
      → (gap_in xs ≡ true → gaps ≡ true)
      → Lexes r ts
      → Lexes (form_rows t symbols xs r) (rows_tokens t symbols xs ts)
  unfolding form_rows rows_tokens sound_rows sound_names names gap_in
  rows-lexed [] h n g e = e
  rows-lexed (x ∷ xs) h n g e =
      let cells = sound_cells (length symbols) x.cells in
      let rows = sound_rows (length symbols) xs in
      let first = sound_name x.name in
      let others = sound_names (names xs) in
      let rest = rows-lexed xs (and_right cells rows h) (and_right first others n) (λ y. g (rw y (or-true (gap_among x.cells)))) e in
      quoted-lexed x.name (and_left first others n)
      (blank-parts (cells-join x.cells (and_left cells rows h) (λ y. g (rw y)) (newline-joins rest)).between)
