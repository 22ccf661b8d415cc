-- Cells that are read are sound: states are below the symbol count, sets rise strictly, and a gap cell has a gap symbol. Assumes nothing.
use Prim.Native.Nat.{ℕ, suc, ◌+◌, ◌<◌}
use Rattle.block.proofs.FormatSound.{Good}
use Rattle.block.proofs.OutcomeLaws.{then-done, need-done, pick-when, pick-either, refused-done, done_inj, All, all_append, all_one}
use Rattle.block.proofs.RisingLaws.{rising-cons, rising-head, rising-rest}
use Rattle.block.specs.Cell.{Cell, state, uncertain, polymorphic, missing, gap, insert, insert_all}
use Rattle.block.specs.Chunk.{find_symbol, state_of, state_cell, state_or_code, gap_or, cell, before, cells_of, symbols, with_state, only_states, closer, set_cell, Row, plain, within, closed, into_set, chunk, row_end}
use Rattle.block.specs.Dna.{acgt, dna_letter, dna_cell}
use Rattle.block.specs.Format.{Format, equal}
use Rattle.block.specs.Outcome.{done, then, need}
use Rattle.block.specs.Sound.{rising, sound_set, sound_cell, is_gap}
use Rattle.block.specs.declared.data.DataType.{DataType}
use Rattle.block.specs.declared.kinds.Bracket.{Bracket}
use Rattle.lexer.proofs.Basics.{by-test}
use Rattle.lexer.specs.Base.{pick, given, bytes, lower, is_empty}
use Rattle.lexer.specs.Words.{Numbered, punct, is_word}
use Rattle.lexer.specs.declared.refusal.Refusal.{Refusal}
use borrow.Author.Tests.{eqb-false, ltb-true, ltb-false, lt-ltb}
use lib.Dec.{eqb, ltb}
use lib.ListN.{length}
use mathlib.Core.Bool.{Bool, true, false, ◌||◌, false≢true}
use mathlib.Core.List.{List, [], ◌∷◌, ◌++◌}
use mathlib.Core.Option.{Option, none, some}
use mathlib.Core.Path.{◌≡◌, refl, sym, ◌∙◌}
use native.Mathlib.Omega.{arith}

-- A cell that a format can give.
pub record Fine (f : Format) (c : Cell) : Type 0 where
  pub sound : sound_cell (length f.symbols) c ≡ true
  pub gap_sign : is_gap c ≡ true → given f.gap ≡ true

module _ {A : Type 0} where
  -- nothing is no value
  pub none-some : {X : Type 0} (a : A) → none ≡ some a → X
  none-some {X} a h = absurd (let z : ◌≡◌ {A = ℕ} 0 1 = cc in omega arith)

  pub some_inj : {a b : A} → some a ≡ some b → a ≡ b
  some_inj {a} {b} h = cc

  -- a choice between two possible values
  pub pick_some : {X : Type 0} (t : Bool) (o p : Option A) (a : A) → (o ≡ some a → X) → (p ≡ some a → X) → pick t o p ≡ some a → X
  unfolding pick
  pick_some true o p a f g h = f h
  pick_some false o p a f g h = g h

find-below : (f : Format) (b k i : ℕ) (l : List ℕ) → find_symbol f b k l ≡ some i → i < k + length l
unfolding find_symbol
find-below f b k i [] h = none-some i h
find-below f b k i (s ∷ r) h =
    pick_some (equal f s b) (some k) (find_symbol f b (suc k) r) i (λ e. let z : k ≡ i = some_inj e in omega arith) (λ e. let z = find-below f b (suc k) i r e in omega arith) h

module _ (f : Format) (good : Good f) where
  -- a cell of DNA that has no gap and is sound beside four symbols
  four : f.data_type ≡ DataType.Dna → length f.symbols ≡ 4
  unfolding acgt bytes
  four e = rw (good.dna e) refl

  coded : f.data_type ≡ DataType.Dna → (d c : Cell) → sound_cell 4 c ≡ true → is_gap c ≡ false → some c ≡ some d → Fine f d
  coded e d c s g h = rw (← some_inj h) (record { sound = rw (four e) s; gap_sign = λ p. absurd (false≢true (sym g ∙ p)) })

  code-fine : (b : ℕ) (d : Cell) → f.data_type ≡ DataType.Dna → dna_cell b ≡ some d → Fine f d
  unfolding dna_cell dna_letter sound_cell sound_set rising is_gap is_empty
  code-fine b d e h =
      let fine : (c : Cell) → sound_cell 4 c ≡ true → is_gap c ≡ false → some c ≡ some d → Fine f d = coded e d in
      pick_some (eqb (lower b) 97) _ _ d (fine (state 0) refl refl)
      (pick_some (eqb (lower b) 99) _ _ d (fine (state 1) refl refl)
      (pick_some (eqb (lower b) 103) _ _ d (fine (state 2) refl refl)
      (pick_some (eqb (lower b) 116) _ _ d (fine (state 3) refl refl)
      (pick_some (eqb (lower b) 114) _ _ d (fine (uncertain (0 ∷ 2 ∷ [])) refl refl)
      (pick_some (eqb (lower b) 121) _ _ d (fine (uncertain (1 ∷ 3 ∷ [])) refl refl)
      (pick_some (eqb (lower b) 115) _ _ d (fine (uncertain (1 ∷ 2 ∷ [])) refl refl)
      (pick_some (eqb (lower b) 119) _ _ d (fine (uncertain (0 ∷ 3 ∷ [])) refl refl)
      (pick_some (eqb (lower b) 107) _ _ d (fine (uncertain (2 ∷ 3 ∷ [])) refl refl)
      (pick_some (eqb (lower b) 109) _ _ d (fine (uncertain (0 ∷ 1 ∷ [])) refl refl)
      (pick_some (eqb (lower b) 98) _ _ d (fine (uncertain (1 ∷ 2 ∷ 3 ∷ [])) refl refl)
      (pick_some (eqb (lower b) 100) _ _ d (fine (uncertain (0 ∷ 2 ∷ 3 ∷ [])) refl refl)
      (pick_some (eqb (lower b) 104) _ _ d (fine (uncertain (0 ∷ 1 ∷ 3 ∷ [])) refl refl)
      (pick_some (eqb (lower b) 118) _ _ d (fine (uncertain (0 ∷ 1 ∷ 2 ∷ [])) refl refl)
      (pick_some (eqb (lower b) 110) _ _ d (fine (uncertain (0 ∷ 1 ∷ 2 ∷ 3 ∷ [])) refl refl)
      (none-some d))))))))))))))) h

  state-fine : (b : ℕ) (d : Cell) (o : Option ℕ) → state_of f b ≡ o → state_cell o ≡ some d → Fine f d
  unfolding state_of state_cell sound_cell is_gap
  state-fine b d none e h = none-some d h
  state-fine b d (some i) e h =
      let l = find-below f b 0 i f.symbols e in
      rw (← some_inj h) (record { sound = lt-ltb i (length f.symbols) (omega arith); gap_sign = λ p. absurd (false≢true p) })

  symbol-fine : (t : DataType) (b : ℕ) (d : Cell) → f.data_type ≡ t → state_or_code t f b ≡ some d → Fine f d
  unfolding state_or_code
  symbol-fine DataType.Standard b d e h = state-fine b d (state_of f b) refl h
  symbol-fine DataType.Dna b d e h = code-fine b d e h

  gap-fine : (g : Option ℕ) (b : ℕ) (d : Cell) → f.gap ≡ g → gap_or f g b ≡ some d → Fine f d
  unfolding gap_or sound_cell is_gap given
  gap-fine none b d e h = symbol-fine f.data_type b d refl h
  gap-fine (some g) b d e h =
      pick_some (equal f g b) (some gap) (state_or_code f.data_type f b) d
      (λ p. rw (← some_inj p) (record { sound = refl; gap_sign = λ q. rw e }))
      (symbol-fine f.data_type b d refl) h

  cell-fine : (b : ℕ) (d : Cell) → cell f b ≡ some d → Fine f d
  unfolding cell sound_cell is_gap
  cell-fine b d h =
      pick_some (equal f f.missing b) (some missing) (gap_or f f.gap b) d
      (λ p. rw (← some_inj p) (record { sound = refl; gap_sign = λ q. absurd (false≢true q) }))
      (gap-fine f.gap b d refl) h

  -- a cell before others, all of them there
  before-all : (o : Option Cell) (more : Option (List Cell)) (cs : List Cell) → ((c : Cell) → o ≡ some c → Fine f c)
      → ((r : List Cell) → more ≡ some r → All (Fine f) r) → before o more ≡ some cs → All (Fine f) cs
  unfolding before
  before-all none more cs p q h = none-some cs h
  before-all (some c) none cs p q h = none-some cs h
  before-all (some c) (some r) cs p q h = rw (← some_inj h) (p c refl, q r refl)

  cells-fine : (text : List ℕ) (cs : List Cell) → cells_of f text ≡ some cs → All (Fine f) cs
  unfolding cells_of
  cells-fine [] cs h = rw (← some_inj h) tt
  cells-fine (b ∷ r) cs h = before-all (cell f b) (cells_of f r) cs (cell-fine b) (cells-fine r) h

  symbols-fine : (w : Numbered) (cs : List Cell) → symbols f w ≡ done cs → All (Fine f) cs
  unfolding symbols
  symbols-fine w cs h =
      let q = pick-when (is_word w.token.kind || punct 43 w) Refusal.CellSymbol w.index (need (cells_of f w.token.text) Refusal.CellSymbol w.index) cs h in
      cells-fine w.token.text cs (need-done (cells_of f w.token.text) Refusal.CellSymbol w.index cs q.1)

-- Behind a smaller index the new one keeps its place, whatever stands first there.
rising-behind : (count j i : ℕ) (r : List ℕ) → j < i → rising count (j ∷ r) ≡ true → rising count (insert i r) ≡ true → rising count (j ∷ insert i r) ≡ true
unfolding insert pick
rising-behind count j i [] lt h k = rising-cons count j i [] lt k
rising-behind count j i (l ∷ r) lt h k =
    by-test (ltb i l) (λ e. rw e (rising-cons count j i (l ∷ r) lt (rw e at k)))
    (λ e. rw e (by-test (eqb i l) (λ p. rw p h) (λ p. rw p (rising-cons count j l (insert i r) (rising-head count j l r h) (rw (e, p) at k)))))

rising-insert : (count i : ℕ) (set : List ℕ) → i < count → rising count set ≡ true → rising count (insert i set) ≡ true
unfolding insert pick
rising-insert count i [] lt h = unfold rising in lt-ltb i count lt
rising-insert count i (j ∷ r) lt h =
    by-test (ltb i j) (λ e. rw e (rising-cons count i j r (ltb-true i j e) h))
    (λ e. rw e (by-test (eqb i j) (λ p. rw p h) (λ p. rw p (rising-behind count j i r (above e p) h (rising-insert count i r lt (rising-rest count j r h))))))
  where
    above : ltb i j ≡ false → eqb i j ≡ false → j < i
    above e p = let l = ltb-false i j e in let n = eqb-false i j p in omega (arith, n)

abbrev Below : ℕ → ℕ → Type 0
Below count i = i < count

rising-all : (count : ℕ) (new set : List ℕ) → All (Below count) new → rising count set ≡ true → rising count (insert_all new set) ≡ true
unfolding insert_all
rising-all count [] set p h = h
rising-all count (i ∷ r) set p h = rising-insert count i (insert_all r set) p.0 (rising-all count r set p.1 h)

-- A row so far: its cells are fine, and the states of an open set rise.
abbrev pub RowFine : Format → Row → Type 0
RowFine f (plain cells) = All (Fine f) cells
RowFine f (within cells k i set) = All (Fine f) cells × (rising (length f.symbols) set ≡ true)

module _ (f : Format) (good : Good f) where
  with-below : (i : ℕ) (more : Option (List ℕ)) (s : List ℕ) → i < length f.symbols
      → ((r : List ℕ) → more ≡ some r → All (Below (length f.symbols)) r) → with_state i more ≡ some s → All (Below (length f.symbols)) s
  unfolding with_state
  with-below i none s lt p h = none-some s h
  with-below i (some r) s lt p h = rw (← some_inj h) (lt, p r refl)

  states-below : (cs : List Cell) (s : List ℕ) → All (Fine f) cs → only_states cs ≡ some s → All (Below (length f.symbols)) s
  unfolding only_states sound_cell
  states-below [] s p h = rw (← some_inj h) tt
  states-below (state i ∷ r) s p h =
      with-below i (only_states r) s (ltb-true i (length f.symbols) p.0.sound) (λ t e. states-below r t p.1 e) h
  states-below (uncertain t ∷ r) s p h = none-some s h
  states-below (polymorphic t ∷ r) s p h = none-some s h
  states-below (missing ∷ r) s p h = none-some s h
  states-below (gap ∷ r) s p h = none-some s h

  set-fine : (k : Bracket) (i : ℕ) (r : List ℕ) → rising (length f.symbols) (i ∷ r) ≡ true → Fine f (set_cell k (i ∷ r))
  unfolding set_cell sound_cell sound_set is_empty is_gap
  set-fine Bracket.Brace i r h = record { sound = h; gap_sign = λ e. absurd (false≢true e) }
  set-fine Bracket.Parenthesis i r h = record { sound = h; gap_sign = λ e. absurd (false≢true e) }

  closed-fine : (cells : List Cell) (k : Bracket) (i : ℕ) (set : List ℕ) (row : Row) → RowFine f (within cells k i set) → closed cells k i set ≡ done row → RowFine f row
  unfolding closed
  closed-fine cells k i [] row p h = refused-done Refusal.StateSet i row h
  closed-fine cells k i (s ∷ r) row p h = rw (← done_inj h) (all_one (Fine f) cells (set_cell k (s ∷ r)) p.0 (set-fine k s r p.1))

  into-fine : (cells : List Cell) (k : Bracket) (i : ℕ) (set : List ℕ) (w : Numbered) (new : List Cell) (row : Row) → RowFine f (within cells k i set)
      → All (Fine f) new → into_set cells k i set w new ≡ done row → RowFine f row
  unfolding into_set
  into-fine cells k i set w new row p q h =
      let s = then-done (need (only_states new) Refusal.StateSet w.index) (λ s. done (within cells k i (insert_all s set))) row h in
      let below = states-below new s.0 q (need-done (only_states new) Refusal.StateSet w.index s.0 s.1) in
      rw (← done_inj s.2) (p.0, rising-all (length f.symbols) s.0 set below p.1)

  done-fine : (s row : Row) → RowFine f s → done s ≡ done row → RowFine f row
  done-fine s row p h = rw (← done_inj h) p

  -- One token more keeps a row fine.
  pub chunk-fine : (s : Row) (w : Numbered) (row : Row) → RowFine f s → chunk f s w ≡ done row → RowFine f row
  unfolding chunk
  chunk-fine (plain cells) w row p h =
      pick-either (punct 123 w) _ _ row (done-fine (within cells Bracket.Brace w.index []) row (p, none-rises))
      (pick-either (punct 40 w) _ _ row (done-fine (within cells Bracket.Parenthesis w.index []) row (p, none-rises)) more) h
    where
      none-rises : rising (length f.symbols) [] ≡ true
      none-rises = unfold rising in refl

      more : then (symbols f w) (λ new. done (plain (cells ++ new))) ≡ done row → RowFine f row
      more e =
          let s = then-done (symbols f w) (λ new. done (plain (cells ++ new))) row e in
          rw (← done_inj s.2) (all_append (Fine f) cells s.0 p (symbols-fine f good w s.0 s.1))
  chunk-fine (within cells k i set) w row p h =
      pick-either (punct (closer k) w) _ _ row (closed-fine cells k i set row p) more h
    where
      more : then (symbols f w) (into_set cells k i set w) ≡ done row → RowFine f row
      more e =
          let s = then-done (symbols f w) (into_set cells k i set w) row e in
          into-fine cells k i set w s.0 row p (symbols-fine f good w s.0 s.1) s.2

  pub row-end-fine : (s : Row) (cells : List Cell) → RowFine f s → row_end s ≡ done cells → All (Fine f) cells
  unfolding row_end
  row-end-fine (plain c) cells p h = rw (← done_inj h) p
  row-end-fine (within c k i set) cells p h = refused-done Refusal.StateSet i cells h
