-- Rows that are read, sequential or interleaved, have no more names and cells together than their words have bytes. Assumes nothing.
use Prim.Native.Nat.{ℕ, suc, ◌+◌, ◌≤◌}
use Rattle.block.proofs.ChunkSound.{none-some, some_inj}
use Rattle.block.proofs.OutcomeLaws.{then-done, need-done, pick-else, pick-when, pick-either, pick-test, refused-done, done_inj}
use Rattle.block.proofs.Weights.{total-append, done-light, fold-grows}
use Rattle.block.specs.Cell.{Cell, state, uncertain, polymorphic, missing, gap, insert, insert_all}
use Rattle.block.specs.Chunk.{cell, before, cells_of, symbols, with_state, only_states, closer, Row, plain, within, closed, into_set, chunk, row_end}
use Rattle.block.specs.Format.{Format}
use Rattle.block.specs.Names.{known}
use Rattle.block.specs.Outcome.{done, then, fold, need}
use Rattle.block.specs.Reading.{Taxon}
use Rattle.block.specs.Sequential.{Shape, names, Sequence, between, inside, row_begins, row_grown, sequential_turn, row_open, sequential_end, sequential}
use Rattle.block.specs.Weights.{total, weight, weights}
use Rattle.block.specs.declared.kinds.Bracket.{Bracket}
use Rattle.lexer.proofs.Basics.{and_right, by-test, picked}
use Rattle.lexer.specs.Base.{pick}
use Rattle.lexer.specs.Classes.{blank}
use Rattle.lexer.specs.Words.{Numbered, label, spaced, punct, is_word, is_quoted}
use Rattle.lexer.specs.declared.refusal.Refusal.{Refusal}
use borrow.Author.Tests.{eqb-true}
use lib.Dec.{eqb, ltb}
use lib.ListN.{length, length-append}
use mathlib.Core.Bool.{true, ◌&&◌, ◌||◌, not, false≢true}
use mathlib.Core.List.{List, [], ◌∷◌, ◌++◌}
use mathlib.Core.Option.{Option, none, some}
use mathlib.Core.Path.{◌≡◌, refl}
use native.Mathlib.Omega.{arith}

-- A word gives at most as many cells as its text has bytes.
before_small : (o : Option Cell) (more : Option (List Cell)) (cs : List Cell) (n : ℕ) → ((r : List Cell) → more ≡ some r → length r ≤ n)
    → before o more ≡ some cs → length cs ≤ suc n
unfolding before
before_small none more cs n p h = none-some cs h
before_small (some c) none cs n p h = none-some cs h
before_small (some c) (some r) cs n p h = let k = p r refl in rw (← some_inj h) (omega arith)

module _ (f : Format) where
  cells-small : (text : List ℕ) (cs : List Cell) → cells_of f text ≡ some cs → length cs ≤ length text
  unfolding cells_of
  cells-small [] cs h = rw (← some_inj h) (omega arith)
  cells-small (b ∷ r) cs h = before_small (cell f b) (cells_of f r) cs (length r) (cells-small r) h

  symbols-small : (w : Numbered) (cs : List Cell) → symbols f w ≡ done cs → length cs ≤ weight w
  unfolding symbols
  symbols-small w cs h =
      let q = pick-when (is_word w.token.kind || punct 43 w) Refusal.CellSymbol w.index (need (cells_of f w.token.text) Refusal.CellSymbol w.index) cs h in
      cells-small w.token.text cs (need-done (cells_of f w.token.text) Refusal.CellSymbol w.index cs q.1)

-- A set has at most as many states as its words gave cells.
with-small : (i : ℕ) (more : Option (List ℕ)) (s : List ℕ) (n : ℕ) → ((r : List ℕ) → more ≡ some r → length r ≤ n) → with_state i more ≡ some s → length s ≤ suc n
unfolding with_state
with-small i none s n p h = none-some s h
with-small i (some r) s n p h = let k = p r refl in rw (← some_inj h) (omega arith)

states-small : (cs : List Cell) (s : List ℕ) → only_states cs ≡ some s → length s ≤ length cs
unfolding only_states
states-small [] s h = rw (← some_inj h) (omega arith)
states-small (state i ∷ r) s h = with-small i (only_states r) s (length r) (states-small r) h
states-small (uncertain t ∷ r) s h = none-some s h
states-small (polymorphic t ∷ r) s h = none-some s h
states-small (missing ∷ r) s h = none-some s h
states-small (gap ∷ r) s h = none-some s h

insert-small : (i : ℕ) (set : List ℕ) → length (insert i set) ≤ suc (length set)
unfolding insert pick
insert-small i [] = omega arith
insert-small i (j ∷ r) =
    let k = insert-small i r in
    by-test (ltb i j) (λ e. rw e (omega arith)) (λ e. rw e (by-test (eqb i j) (λ p. rw p (omega arith)) (λ p. rw p (omega arith))))

insert-all-small : (new set : List ℕ) → length (insert_all new set) ≤ length new + length set
unfolding insert_all
insert-all-small [] set = omega arith
insert-all-small (i ∷ r) set =
    let k = insert-all-small r set in
    let one = insert-small i (insert_all r set) in
    omega arith

-- A row so far counts its cells and the states of an open set: a set that closes has at least one state and gives one cell.
abbrev pub row-load : Row → ℕ
row-load (plain cells) = length cells
row-load (within cells k i set) = length cells + length set

module _ (f : Format) where
  closed-small : (cells : List Cell) (k : Bracket) (i : ℕ) (set : List ℕ) (row : Row) → closed cells k i set ≡ done row → row-load row ≤ length cells + length set
  unfolding closed
  closed-small cells k i [] row h = refused-done Refusal.StateSet i row h
  closed-small cells k i (s ∷ r) row h = rw (← done_inj h) (simp length-append (omega arith))

  into-small : (cells : List Cell) (k : Bracket) (i : ℕ) (set : List ℕ) (w : Numbered) (new : List Cell) (row : Row)
      → into_set cells k i set w new ≡ done row → row-load row ≤ length cells + length set + length new
  unfolding into_set
  into-small cells k i set w new row h =
      let s = then-done (need (only_states new) Refusal.StateSet w.index) (λ s. done (within cells k i (insert_all s set))) row h in
      let few = states-small new s.0 (need-done (only_states new) Refusal.StateSet w.index s.0 s.1) in
      let all = insert-all-small s.0 set in
      rw (← done_inj s.2) (omega arith)

  -- One token more adds at most its weight.
  pub chunk-grows : (s : Row) (w : Numbered) (row : Row) → chunk f s w ≡ done row → row-load row ≤ row-load s + weight w
  unfolding chunk
  chunk-grows (plain cells) w row h =
      pick-either (punct 123 w) _ _ row (done-light row-load (within cells Bracket.Brace w.index []) row (length cells + weight w) (omega arith))
      (pick-either (punct 40 w) _ _ row (done-light row-load (within cells Bracket.Parenthesis w.index []) row (length cells + weight w) (omega arith)) more) h
    where
      more : then (symbols f w) (λ new. done (plain (cells ++ new))) ≡ done row → row-load row ≤ length cells + weight w
      more e =
          let s = then-done (symbols f w) (λ new. done (plain (cells ++ new))) row e in
          let k = symbols-small f w s.0 s.1 in
          rw (← done_inj s.2) (simp length-append (omega arith))
  chunk-grows (within cells k i set) w row h =
      pick-either (punct (closer k) w) _ _ row (λ e. let c = closed-small cells k i set row e in omega arith) more h
    where
      more : then (symbols f w) (into_set cells k i set w) ≡ done row → row-load row ≤ length cells + length set + weight w
      more e =
          let s = then-done (symbols f w) (into_set cells k i set w) row e in
          let few = symbols-small f w s.0 s.1 in
          let l = into-small cells k i set w s.0 row s.2 in
          omega arith

  pub row-end-small : (s : Row) (cells : List Cell) → row_end s ≡ done cells → length cells ≤ row-load s
  unfolding row_end
  row-end-small (plain c) cells h = rw (← done_inj h) (omega arith)
  row-end-small (within c k i set) cells h = refused-done Refusal.StateSet i cells h

-- A name has at least one byte.
pub named-weighs : (w : Numbered) (i : ℕ) (n : List ℕ) → need (label w) Refusal.NotName i ≡ done n → 1 ≤ weight w
unfolding label
named-weighs w i n h =
    let t = w.token.text in
    let named = is_word w.token.kind || is_quoted w.token.kind in
    let e = picked (named && not (blank t)) (spaced t) n (need-done (label w) Refusal.NotName i n h) in
    filled t (and_right named (not (blank t)) e)
  where
    filled : (t : List ℕ) → not (blank t) ≡ true → 1 ≤ length t
    filled [] e = absurd (false≢true (unfold blank in e))
    filled (b ∷ r) e = omega arith

-- Rows count their names and their cells.
abbrev pub row-bulk : Taxon → ℕ
row-bulk t = suc (length t.cells)

abbrev pub bulk : List Taxon → ℕ
bulk rows = total row-bulk rows

-- Rows that are read from words of so much weight, NTAX of them.
pub record Taken (sh : Shape) (n : ℕ) (rows : List Taxon) : Type 0 where
  pub light : bulk rows ≤ n
  pub counted : length rows ≡ sh.taxa

-- Rows may be counted by any measure that gives a row of NCHAR cells no more than its name and its cells.
module _ (sh : Shape) (heavy : Taxon → ℕ) (fair : (t : Taxon) → length t.cells ≡ sh.characters → heavy t ≤ row-bulk t) where
  abbrev sequence-load : Sequence → ℕ
  sequence-load (between rows) = total heavy rows
  sequence-load (inside rows i n row) = suc (total heavy rows + row-load row)

  begins-grows : (rows : List Taxon) (w : Numbered) (t : Sequence) → then (need (label w) Refusal.NotName w.index) (row_begins rows w) ≡ done t
      → sequence-load t ≤ total heavy rows + weight w
  unfolding row_begins
  begins-grows rows w t h =
      let n = then-done (need (label w) Refusal.NotName w.index) (row_begins rows w) t h in
      let k = pick-else (known n.0 (names rows)) Refusal.TaxonTwice w.index (done (inside rows w.index n.0 (plain []))) t n.2 in
      let one = named-weighs w w.index n.0 n.1 in
      rw (← done_inj k.1) (omega arith)

  grown-small : (rows : List Taxon) (i : ℕ) (n : List ℕ) (w : Numbered) (row : Row) (t : Sequence) → row_grown sh rows i n w row ≡ done t
      → sequence-load t ≤ suc (total heavy rows + row-load row)
  unfolding row_grown
  grown-small rows i n w (within cells k j set) t h = rw (← done_inj h) (omega arith)
  grown-small rows i n w (plain cells) t h =
      let short = pick-else (ltb sh.characters (length cells)) Refusal.Row w.index _ t h in
      pick-test (eqb (length cells) sh.characters) _ _ t full
      (done-light sequence-load (inside rows i n (plain cells)) t (suc (total heavy rows + length cells)) (omega arith)) short.1
    where
      taxon : Taxon
      taxon = record { name = n; cells = cells }

      full : eqb (length cells) sh.characters ≡ true → done (between (rows ++ (taxon ∷ []))) ≡ done t → sequence-load t ≤ suc (total heavy rows + length cells)
      full e =
          let one = fair taxon (eqb-true (length cells) sh.characters e) in
          done-light sequence-load (between (rows ++ (taxon ∷ []))) t (suc (total heavy rows + length cells)) (simp total-append (omega arith))

  turn-grows : (s : Sequence) (w : Numbered) (t : Sequence) → sequential_turn sh s w ≡ done t → sequence-load t ≤ sequence-load s + weight w
  unfolding sequential_turn
  turn-grows (between rows) w t h = begins-grows rows w t (pick-else (eqb (length rows) sh.taxa) Refusal.Count w.index _ t h).1
  turn-grows (inside rows i n row) w t h =
      let r = then-done (chunk sh.format row w) (row_grown sh rows i n w) t h in
      let k = chunk-grows sh.format row w r.0 r.1 in
      let l = grown-small rows i n w r.0 t r.2 in
      omega arith

  end-taken : (s : Sequence) (rows : List Taxon) (n : ℕ) → sequence-load s ≤ n → sequential_end sh s ≡ done rows
      → (total heavy rows ≤ n) × (length rows ≡ sh.taxa)
  unfolding sequential_end row_open
  end-taken (between rows) out n p h =
      let q = pick-when (eqb (length rows) sh.taxa) Refusal.Count sh.head (done rows) out h in
      rw (← done_inj q.1) (p, eqb-true (length rows) sh.taxa q.0)
  end-taken (inside rows i n (plain cells)) out m p h = refused-done Refusal.Row i out h
  end-taken (inside rows i n (within cells k j set)) out m p h = refused-done Refusal.StateSet j out h

  pub sequential-heavy : (ws : List Numbered) (rows : List Taxon) → sequential sh ws ≡ done rows → (total heavy rows ≤ weights ws) × (length rows ≡ sh.taxa)
  unfolding sequential
  sequential-heavy ws rows h =
      let s = then-done (fold (sequential_turn sh) (between []) ws) (sequential_end sh) rows h in
      let k = fold-grows sequence-load weight (sequential_turn sh) turn-grows (between []) ws s.0 s.1 in
      end-taken s.0 rows (weights ws) (omega arith) s.2

pub sequential-taken : (sh : Shape) (ws : List Numbered) (rows : List Taxon) → sequential sh ws ≡ done rows → Taken sh (weights ws) rows
sequential-taken sh ws rows h = let k = sequential-heavy sh row-bulk (λ t e. omega arith) ws rows h in record { light = k.0; counted = k.1 }
