-- Words that are judged good give a row the cells that are taken from them, one word or several. Assumes nothing.
use Prim.Native.Nat.{ℕ}
use Rattle.block.proofs.ChunkSound.{none-some, some_inj}
use Rattle.block.proofs.OutcomeLaws.{then-done, need-done, pick-when, refused-done, done_inj}
use Rattle.block.specs.Cell.{Cell, state, uncertain, polymorphic, missing, gap, insert_all}
use Rattle.block.specs.Chunk.{Row, plain, within, cell, before, cells_of, symbols, with_state, only_states, closer, set_cell, closed, into_set, chunk, row_end}
use Rattle.block.specs.Format.{Format}
use Rattle.block.specs.Outcome.{done, then, fold, need}
use Rattle.lexer.proofs.Basics.{by-test}
use Rattle.lexer.specs.Base.{pick, byte}
use Rattle.lexer.specs.Words.{Numbered, punct, is_word}
use Rattle.lexer.specs.declared.refusal.Refusal.{Refusal}
use Rattle.matrix.specs.Taken.{also, cells_taken, word_taken, states_taken, taken, cells_in, line_taken}
use mathlib.Core.Bool.{◌||◌}
use mathlib.Core.List.{List, [], ◌∷◌, ◌++◌}
use mathlib.Core.Option.{Option, none, some}
use mathlib.Core.Path.{◌≡◌, refl, ap, ◌∙◌}

-- Symbols that are all cells.
also-good : (o : Option Cell) (more : Option (List Cell)) (all cs : List Cell) → ((ds : List Cell) → more ≡ some ds → all ≡ ds) → before o more ≡ some cs → also o all ≡ cs
unfolding before also
also-good none more all cs same h = none-some cs h
also-good (some c) none all cs same h = none-some cs h
also-good (some c) (some ds) all cs same h = ap (λ x. c ∷ x) (same ds refl) ∙ some_inj h

cells-good : (f : Format) (text : List ℕ) (cs : List Cell) → cells_of f text ≡ some cs → cells_taken f text ≡ cs
unfolding cells_of cells_taken
cells-good f [] cs h = some_inj h
cells-good f (b ∷ r) cs h = also-good (cell f b) (cells_of f r) (cells_taken f r) cs (cells-good f r) h

-- Cells that are all states.
with-good : (i : ℕ) (more : Option (List ℕ)) (all s : List ℕ) → ((t : List ℕ) → more ≡ some t → all ≡ t) → with_state i more ≡ some s → i ∷ all ≡ s
unfolding with_state
with-good i none all s same h = none-some s h
with-good i (some t) all s same h = ap (λ x. i ∷ x) (same t refl) ∙ some_inj h

states-good : (cs : List Cell) (s : List ℕ) → only_states cs ≡ some s → states_taken cs ≡ s
unfolding only_states states_taken
states-good [] s h = some_inj h
states-good (state i ∷ r) s h = with-good i (only_states r) (states_taken r) s (states-good r) h
states-good (uncertain t ∷ r) s h = none-some s h
states-good (polymorphic t ∷ r) s h = none-some s h
states-good (missing ∷ r) s h = none-some s h
states-good (gap ∷ r) s h = none-some s h

module _ (f : Format) where
  -- The cells of a word.
  word_good : (w : Numbered) (new : List Cell) → symbols f w ≡ done new → word_taken f w ≡ new
  unfolding symbols word_taken pick
  word_good w new h =
      let one = pick-when (is_word w.token.kind || punct (byte "+") w) Refusal.CellSymbol w.index (need (cells_of f w.token.text) Refusal.CellSymbol w.index) new h in
      rw one.0 (cells-good f w.token.text new (need-done (cells_of f w.token.text) Refusal.CellSymbol w.index new one.1))

  -- A row with one word more.
  pub taken-good : (row : Row) (w : Numbered) (next : Row) → chunk f row w ≡ done next → taken f row w ≡ next
  unfolding chunk taken pick closed into_set
  taken-good (plain cells) w next h =
      by-test (punct (byte "{") w) (λ e. rw e (done_inj (rw e at h)))
      (λ e. by-test (punct (byte "(") w) (λ p. rw (e, p) (done_inj (rw (e, p) at h))) (λ p. rw (e, p) (more (rw (e, p) at h))))
    where
      more : then (symbols f w) (λ new. done (plain (cells ++ new))) ≡ done next → plain (cells ++ word_taken f w) ≡ next
      more g =
          let one = then-done (symbols f w) (λ new. done (plain (cells ++ new))) next g in
          rw (word_good w one.0 one.1) (done_inj one.2)
  taken-good (within cells k i set) w next h = by-test (punct (closer k) w) (λ e. rw e (whole set (rw e at h))) (λ e. rw e (more (rw e at h)))
    where
      whole : (s : List ℕ) → closed cells k i s ≡ done next → plain (cells ++ (set_cell k s ∷ [])) ≡ next
      whole [] g = refused-done Refusal.StateSet i next g
      whole (j ∷ r) g = done_inj g

      more : then (symbols f w) (into_set cells k i set w) ≡ done next → within cells k i (insert_all (states_taken (word_taken f w)) set) ≡ next
      more g =
          let one = then-done (symbols f w) (into_set cells k i set w) next g in
          let all = then-done (need (only_states one.0) Refusal.StateSet w.index) (λ s. done (within cells k i (insert_all s set))) next one.2 in
          let states = states-good one.0 all.0 (need-done (only_states one.0) Refusal.StateSet w.index all.0 all.1) in
          rw (word_good w one.0 one.1, states) (done_inj all.2)

  -- A row with several words more.
  line-good : (row : Row) (ws : List Numbered) (next : Row) → fold (chunk f) row ws ≡ done next → line_taken f row ws ≡ cells_in next
  unfolding fold line_taken
  line-good row [] next h = ap cells_in (done_inj h)
  line-good row (w ∷ r) next h =
      let one = then-done (chunk f row w) (λ t. fold (chunk f) t r) next h in
      rw (taken-good row w one.0 one.1) (line-good one.0 r next one.2)

  -- The cells of a row whose words have ended.
  end-good : (row : Row) (cells : List Cell) → row_end row ≡ done cells → cells_in row ≡ cells
  unfolding row_end cells_in
  end-good (plain new) cells h = done_inj h
  end-good (within new k i set) cells h = refused-done Refusal.StateSet i cells h

  pub ended-good : (row : Row) (ws : List Numbered) (cells : List Cell) → then (fold (chunk f) row ws) row_end ≡ done cells → line_taken f row ws ≡ cells
  ended-good row ws cells h =
      let one = then-done (fold (chunk f) row ws) row_end cells h in
      line-good row ws one.0 one.1 ∙ end-good one.0 cells one.2
