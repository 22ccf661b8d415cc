-- The cells of a row of a written form are read. Assumes nothing.
use Prim.Native.Nat.{ℕ, suc, ◌<◌}
use Rattle.block.proofs.RisingLaws.{rising-first, rising-rest}
use Rattle.block.specs.Cell.{Cell, state, uncertain, polymorphic, missing, gap, insert, insert_all}
use Rattle.block.specs.Chunk.{Row, plain, within, closer, set_cell, closed, chunk, cell}
use Rattle.block.specs.Commands.{up_to_end, words}
use Rattle.block.specs.Outcome.{Outcome, done, refused, then, fold}
use Rattle.block.specs.Reading.{Taxon}
use Rattle.block.specs.Sequential.{Shape, Sequence, between, inside, row_grown, sequential_turn}
use Rattle.block.specs.declared.data.DataType.{DataType}
use Rattle.block.specs.declared.kinds.Bracket.{Bracket}
use Rattle.lexer.proofs.Basics.{and_left, and_right, or-first, or-second}
use Rattle.lexer.specs.Base.{is_empty}
use Rattle.lexer.specs.Tokens.{Token}
use Rattle.lexer.specs.Words.{Numbered, numbered, is_word}
use Rattle.lexer.specs.declared.Kind.{Kind}
use Rattle.record.proofs.ChunkLaws.{Symbolic, word-symbolic, chunk-byte, chunk-symbol, set-byte, set-symbol, sign-joined-turned}
use Rattle.record.proofs.CommandLaws.{at, Turns, words_from}
use Rattle.record.proofs.FormTokens.{word, mark, newline, sign_joined, set_tokens, cell_tokens, cells_tokens}
use Rattle.record.proofs.SetLaws.{insert-all-comm, insert-rising}
use Rattle.record.proofs.SignLaws.{Signs}
use Rattle.record.specs.Form.{sign, missing_sign, gap_sign}
use Rattle.block.specs.Sound.{rising, sound_set, sound_cell, sound_cells, is_gap, gap_among}
use borrow.Author.Tests.{not-true, ltb-true, le-ltb, eq-eqb, ne_eqb}
use lib.ListN.{length, length-append}
use mathlib.Core.Bool.{Bool, true, false, not, false≢true, true≢false}
use mathlib.Core.List.{List, [], ◌∷◌, ◌++◌, append-nil, append_assoc}
use mathlib.Core.Option.{some}
use mathlib.Core.Path.{◌≡◌, refl, ap}
use native.Mathlib.Omega.{arith}

-- A token's index alone matters to the row that it is in.
grown-index : (sh : Shape) (rows : List Taxon) (i : ℕ) (n : List ℕ) (j : ℕ) (v w : Token) (o : Outcome Row)
    → then o (row_grown sh rows i n (at j v)) ≡ then o (row_grown sh rows i n (at j w))
unfolding then row_grown
grown-index sh rows i n j v w (done (plain cells)) = refl
grown-index sh rows i n j v w (done (within cells k o set)) = refl
grown-index sh rows i n j v w (refused r k) = refl

-- Of a row with this name behind these rows: reading goes on to an end from where the row has these cells.
pub record Grown (sh : Shape) (rows : List Taxon) (n : List ℕ) (cells : List Cell) (ts : List Token) (t : Sequence) : Type 0 where
  pub grown : (i k : ℕ) (w : Numbered) → then (row_grown sh rows i n w (plain cells)) (λ s. fold (sequential_turn sh) s (words (up_to_end (numbered k ts)))) ≡ done t

module _ (sh : Shape) (rows : List Taxon) (n : List ℕ) (cells : List Cell) {ts : List Token} {t : Sequence} where
  row-full : length cells ≡ sh.characters → Turns (sequential_turn sh) (between (rows ++ (record { name = n; cells = cells } ∷ []))) ts t → Grown sh rows n cells ts t
  unfolding words_from row_grown
  row-full e r = record { grown = λ i k w. rw (le-ltb sh.characters (length cells) (omega arith), eq-eqb (length cells) sh.characters e) (r.turned k) }

  row-begun : length cells < sh.characters → ((i : ℕ) → Turns (sequential_turn sh) (inside rows i n (plain cells)) ts t) → Grown sh rows n cells ts t
  unfolding words_from row_grown
  row-begun l r = record { grown = λ i k w. rw (le-ltb sh.characters (length cells) (omega arith), ne_eqb (length cells) sh.characters (λ e. omega arith)) ((r i).turned k) }

  pub row-goes-on : length cells < sh.characters → Grown sh rows n cells ts t → (i : ℕ) → Turns (sequential_turn sh) (inside rows i n (plain cells)) ts t
  unfolding words_from row_grown
  row-goes-on l g i =
      record { turned = λ k. rw (le-ltb sh.characters (length cells) (omega arith), ne_eqb (length cells) sh.characters (λ e. omega arith)) at (g.grown i k (at 0 newline)) }

-- One sign more. A word may follow at once only where the row is not full.
module _ (sh : Shape) (rows : List Taxon) (n : List ℕ) {t : Sequence} where
  sign-grown : (b : ℕ) (c : Cell) (cells : List Cell) (ts : List Token) → cell sh.format b ≡ some c
      → ((u : List ℕ) (r : List Token) → ts ≡ word u ∷ r → length (cells ++ (c ∷ [])) < sh.characters) → Grown sh rows n (cells ++ (c ∷ [])) ts t
      → (i : ℕ) → Turns (sequential_turn sh) (inside rows i n (plain cells)) (sign_joined b ts) t
  unfolding words_from sequential_turn
  sign-grown b c cells ts e room g i = sign-joined-turned b ts alone joins
    where
      alone : (k : Kind) → Symbolic k → Turns (sequential_turn sh) (inside rows i n (plain cells)) (record { kind = k; text = b ∷ [] } ∷ ts) t
      alone k can = record { turned = λ j. rw (can.no_end, can.no-line, chunk-symbol sh.format k can b j c cells e) (g.grown i (suc j) (at j (record { kind = k; text = b ∷ [] }))) }

      joins : (u : List ℕ) (r : List Token) → ts ≡ word u ∷ r → Turns (sequential_turn sh) (inside rows i n (plain cells)) (word (b ∷ u) ∷ r) t
      joins u r p =
          let on : Turns (sequential_turn sh) (inside rows i n (plain (cells ++ (c ∷ [])))) (word u ∷ r) t = rw p at (row-goes-on sh rows n (cells ++ (c ∷ [])) (room u r p) g i) in
          record { turned = λ j. rw (chunk-byte sh.format Kind.Word word-symbolic b u j c cells e, grown-index sh rows i n j (word (b ∷ u)) (word u) (chunk sh.format (plain (cells ++ (c ∷ []))) (at j (word u)))) (on.turned j) }

  -- One sign more in a set, and a whole set.
  sign-within : (b j : ℕ) (cells : List Cell) (k : Bracket) (o : ℕ) (set : List ℕ) (ts : List Token) → cell sh.format b ≡ some (state j) → (i : ℕ)
      → Turns (sequential_turn sh) (inside rows i n (within cells k o (insert j set))) ts t
      → Turns (sequential_turn sh) (inside rows i n (within cells k o set)) (sign_joined b ts) t
  unfolding words_from sequential_turn row_grown
  sign-within b j cells k o set ts e i g = sign-joined-turned b ts alone joins
    where
      alone : (x : Kind) → Symbolic x → Turns (sequential_turn sh) (inside rows i n (within cells k o set)) (record { kind = x; text = b ∷ [] } ∷ ts) t
      alone x can = record { turned = λ m. rw (can.no_end, can.no-line, set-symbol sh.format x can b m j cells k o set e) (g.turned (suc m)) }

      joins : (u : List ℕ) (r : List Token) → ts ≡ word u ∷ r → Turns (sequential_turn sh) (inside rows i n (within cells k o set)) (word (b ∷ u) ∷ r) t
      joins u r p =
          let on : Turns (sequential_turn sh) (inside rows i n (within cells k o (insert j set))) (word u ∷ r) t = rw p at g in
          record { turned = λ m. rw (set-byte sh.format Kind.Word word-symbolic b u m j cells k o set e, grown-index sh rows i n m (word (b ∷ u)) (word u) (chunk sh.format (within cells k o (insert j set)) (at m (word u)))) (on.turned m) }

opener : Bracket → ℕ
opener Bracket.Brace = 123
opener Bracket.Parenthesis = 40

-- Does the first token begin a is_word
wordy : List Token → Bool
wordy [] = false
wordy (t ∷ r) = is_word t.kind

-- A word follows a cell only where another cell does.
room-behind : (type : DataType) (symbols : List ℕ) (count : ℕ) (c : Cell) (r cells : List Cell) (ts : List Token) → length (cells ++ (c ∷ r)) ≡ count
    → (u : List ℕ) (q : List Token) → cells_tokens type symbols r (newline ∷ ts) ≡ word u ∷ q → length (cells ++ (c ∷ [])) < count
unfolding cells_tokens wordy is_word
room-behind type symbols count c [] cells ts e u q p = absurd (false≢true (ap wordy p))
room-behind type symbols count c (d ∷ r) cells ts e u q p = omega (arith, simp length-append at e, length-append cells (c ∷ []))

module _ (sh : Shape) (type : DataType) (symbols : List ℕ) (gaps : Bool) (signs : Signs sh.format type symbols gaps) (rows : List Taxon) (n : List ℕ) {t : Sequence} where
  set-within : (s : List ℕ) (cells : List Cell) (k : Bracket) (o : ℕ) (set : List ℕ) (ts : List Token) → rising (length symbols) s ≡ true → (i : ℕ)
      → Turns (sequential_turn sh) (inside rows i n (within cells k o (insert_all s set))) ts t
      → Turns (sequential_turn sh) (inside rows i n (within cells k o set)) (set_tokens symbols s ts) t
  unfolding set_tokens insert_all
  set-within [] cells k o set ts h i g = g
  set-within (j ∷ s) cells k o set ts h i g =
      sign-within sh rows n (sign symbols j) j cells k o set (set_tokens symbols s ts) (signs.states j (rising-first (length symbols) j s h)) i
      (set-within s cells k o (insert j set) ts (rising-rest (length symbols) j s h) i (rw (insert-all-comm s j set) g))

  closer-turned : (k : Bracket) (cells : List Cell) (o : ℕ) (s : List ℕ) (ts : List Token) → is_empty s ≡ false
      → Grown sh rows n (cells ++ (set_cell k s ∷ [])) ts t → (i : ℕ)
      → Turns (sequential_turn sh) (inside rows i n (within cells k o s)) (mark (closer k) ∷ ts) t
  unfolding words_from sequential_turn chunk closer closed is_empty
  closer-turned k cells o [] ts h g i = absurd (true≢false h)
  closer-turned Bracket.Brace cells o (j ∷ s) ts h g i = record { turned = λ m. g.grown i (suc m) (at m (mark 125)) }
  closer-turned Bracket.Parenthesis cells o (j ∷ s) ts h g i = record { turned = λ m. g.grown i (suc m) (at m (mark 41)) }

  set-turned : (k : Bracket) (s : List ℕ) (cells : List Cell) (ts : List Token) → sound_set (length symbols) s ≡ true
      → Grown sh rows n (cells ++ (set_cell k s ∷ [])) ts t → (i : ℕ)
      → Turns (sequential_turn sh) (inside rows i n (plain cells)) (mark (opener k) ∷ set_tokens symbols s (mark (closer k) ∷ ts)) t
  unfolding words_from sequential_turn row_grown chunk opener sound_set
  set-turned k s cells ts h g i = go k inner
    where
      rises : rising (length symbols) s ≡ true
      rises = and_right (not (is_empty s)) (rising (length symbols) s) h

      inner : (o : ℕ) → Turns (sequential_turn sh) (inside rows i n (within cells k o [])) (set_tokens symbols s (mark (closer k) ∷ ts)) t
      inner o =
          set-within s cells k o [] (mark (closer k) ∷ ts) rises i
          (rw (insert-rising (length symbols) s rises) (closer-turned k cells o s ts (not-true (is_empty s) (and_left (not (is_empty s)) (rising (length symbols) s) h)) g i))

      go : (x : Bracket)
          → ((o : ℕ) → Turns (sequential_turn sh) (inside rows i n (within cells x o [])) (set_tokens symbols s (mark (closer k) ∷ ts)) t)
          → Turns (sequential_turn sh) (inside rows i n (plain cells)) (mark (opener x) ∷ set_tokens symbols s (mark (closer k) ∷ ts)) t
      go Bracket.Brace r = record { turned = λ m. (r m).turned (suc m) }
      go Bracket.Parenthesis r = record { turned = λ m. (r m).turned (suc m) }

  cell-turned : (c : Cell) (cells : List Cell) (ts : List Token) → sound_cell (length symbols) c ≡ true → (is_gap c ≡ true → gaps ≡ true)
      → ((u : List ℕ) (r : List Token) → ts ≡ word u ∷ r → length (cells ++ (c ∷ [])) < sh.characters) → Grown sh rows n (cells ++ (c ∷ [])) ts t
      → (i : ℕ) → Turns (sequential_turn sh) (inside rows i n (plain cells)) (cell_tokens type symbols c ts) t
  unfolding cell_tokens sound_cell is_gap opener closer set_cell
  cell-turned (state j) cells ts h p room g i = sign-grown sh rows n (sign symbols j) (state j) cells ts (signs.states j (ltb-true j (length symbols) h)) room g i
  cell-turned (uncertain s) cells ts h p room g i = set-turned Bracket.Brace s cells ts h g i
  cell-turned (polymorphic s) cells ts h p room g i = set-turned Bracket.Parenthesis s cells ts h g i
  cell-turned missing cells ts h p room g i = sign-grown sh rows n (missing_sign type symbols) missing cells ts signs.missings room g i
  cell-turned gap cells ts h p room g i = sign-grown sh rows n (gap_sign type symbols) gap cells ts (signs.gaps-too (p refl)) room g i

  pub cells-grown : (cs cells : List Cell) (ts : List Token) → sound_cells (length symbols) cs ≡ true → (gap_among cs ≡ true → gaps ≡ true) → length (cells ++ cs) ≡ sh.characters → Turns (sequential_turn sh) (between (rows ++ (record { name = n; cells = cells ++ cs } ∷ []))) (newline ∷ ts) t → Grown sh rows n cells (cells_tokens type symbols cs (newline ∷ ts)) t
  unfolding cells_tokens sound_cells gap_among
  cells-grown [] cells ts h p e r = row-full sh rows n cells (rw append-nil at e) (rw append-nil at r)
  cells-grown (c ∷ cs) cells ts h p e r =
      let behind : List Token = cells_tokens type symbols cs (newline ∷ ts) in
      let more : Grown sh rows n (cells ++ (c ∷ [])) behind t =
      cells-grown cs (cells ++ (c ∷ [])) ts (and_right (sound_cell (length symbols) c) (sound_cells (length symbols) cs) h) (λ q. p (or-second (is_gap c) (gap_among cs) q)) (rw append_assoc e) (rw append_assoc r)
      in
      row-begun sh rows n cells (omega (arith, simp length-append at e)) (cell-turned c cells behind (and_left (sound_cell (length symbols) c) (sound_cells (length symbols) cs) h) (λ q. p (or-first (is_gap c) (gap_among cs) q)) (room-behind type symbols sh.characters c cs cells ts e) more)
