-- A row grows by its shape as it grows itself. Assumes nothing.
use Rattle.std.specs.Prelude.{Some, None, Bool}
use Prim.Native.Nat.{ℕ, suc, ◌+◌}
use Rattle.block.proofs.ChunkSound.{none-some, some_inj}
use Rattle.block.specs.Cell.{Cell, state, uncertain, polymorphic, missing, gap, insert, insert_all}
use Rattle.block.specs.Chunk.{cells_of, symbols, with_state, only_states, closer, set_cell, Row, plain, within, closed, into_set, chunk}
use Rattle.block.specs.Format.{Format}
use Rattle.block.specs.Outcome.{done, refused, then, need, mapped}
use Rattle.block.specs.declared.kinds.Bracket.{Bracket}
use Rattle.lexer.proofs.Basics.{and-true, and-false, by-test}
use Rattle.lexer.specs.Base.{pick, is_empty, given, byte}
use Rattle.lexer.specs.Words.{Numbered, punct, is_word}
use Rattle.lexer.specs.declared.refusal.Refusal.{Refusal}
use Rattle.matrix.specs.RowShape.{coded, shape, symbols_coded, plain_with, within_with, chunk_shape}
use Rattle.matrix.specs.declared.matrix.Chunk.{Chunk}
use Rattle.std.specs.Prelude as Std
use borrow.Author.Tests.{ne_eqb}
use lib.Dec.{eqb, ltb}
use lib.ListN.{length, length-append}
use mathlib.Core.Bool.{true, false, ◌&&◌, ◌||◌}
use mathlib.Core.List.{List, [], ◌∷◌, ◌++◌}
use mathlib.Core.Option.{Option, none, some}
use mathlib.Core.Path.{◌≡◌, refl, sym, ap, ◌∙◌}
use native.Mathlib.Omega.{arith}

-- What the cells of a word come to: how many they are, and whether all are states.
unfoldable pub counted : Option (List Cell) → Std.Option (ℕ × Bool)
counted none = None
counted (some cs) = Some ((length cs), (given (only_states cs)))

-- The states of a word are as many as its cells.
with-length : (i n : ℕ) (o : Option (List ℕ)) (s : List ℕ) → ((t : List ℕ) → o ≡ some t → length t ≡ n) → with_state i o ≡ some s → length s ≡ suc n
unfolding with_state
with-length i n none s more h = none-some s h
with-length i n (some t) s more h = rw (← some_inj h) (ap suc (more t refl))

states-length : (cs : List Cell) (s : List ℕ) → only_states cs ≡ some s → length s ≡ length cs
unfolding only_states
states-length [] s h = rw (← some_inj h) refl
states-length (state i ∷ r) s h = with-length i (length r) (only_states r) s (states-length r) h
states-length (uncertain t ∷ r) s h = none-some s h
states-length (polymorphic t ∷ r) s h = none-some s h
states-length (missing ∷ r) s h = none-some s h
states-length (gap ∷ r) s h = none-some s h

insert-some : (i : ℕ) (s : List ℕ) → is_empty (insert i s) ≡ false
unfolding insert is_empty pick
insert-some i [] = refl
insert-some i (j ∷ r) = by-test (ltb i j) (λ e. rw e refl) (λ e. by-test (eqb i j) (λ f. rw (e, f) refl) (λ f. rw (e, f) refl))

all-some : (new set : List ℕ) → is_empty (insert_all new set) ≡ is_empty set && eqb (length new) 0
unfolding insert_all
all-some [] set = sym (and-true (is_empty set))
all-some (i ∷ r) set =
    let past : eqb (suc (length r)) 0 ≡ false = ne_eqb (suc (length r)) 0 (λ e. omega arith) in
    insert-some i (insert_all r set) ∙ sym (rw past (and-false (is_empty set)))

-- A word's cells are told by their codes.
module _ (f : Format) (codes : List ℕ) (w : Numbered) (told : coded codes 0 true w.token.text ≡ counted (cells_of f w.token.text)) where
  plain-shaped : (cells : List Cell) → mapped shape (then (symbols f w) (λ new. done (plain (cells ++ new)))) ≡ plain_with (length cells) w.index (symbols_coded codes w)
  unfolding symbols symbols_coded pick need then mapped shape plain_with counted
  plain-shaped cells =
      by-test (is_word w.token.kind || punct (byte "+") w) (λ e. rw (e, told) (go (cells_of f w.token.text))) (λ e. rw e refl)
    where
      go : (o : Option (List Cell)) → mapped shape (then (need o Refusal.CellSymbol w.index) (λ new. done (plain (cells ++ new)))) ≡ plain_with (length cells) w.index (counted o)
      go none = refl
      go (some new) = rw (length-append cells new) refl

  within-shaped : (cells : List Cell) (k : Bracket) (i : ℕ) (set : List ℕ)
      → mapped shape (then (symbols f w) (into_set cells k i set w)) ≡ within_with (length cells) k i (is_empty set) w.index (symbols_coded codes w)
  unfolding symbols symbols_coded pick need then mapped shape within_with counted into_set given
  within-shaped cells k i set =
      by-test (is_word w.token.kind || punct (byte "+") w) (λ e. rw (e, told) (go (cells_of f w.token.text))) (λ e. rw e refl)
    where
      states : (new : List Cell) (s : Option (List ℕ)) → only_states new ≡ s
          → mapped shape (then (need s Refusal.StateSet w.index) (λ t. done (within cells k i (insert_all t set)))) ≡ within_with (length cells) k i (is_empty set) w.index (Some ((length new), (given s)))
      states new none e = refl
      states new (some s) e = rw (all-some s set, states-length new s e) refl

      go : (o : Option (List Cell)) → mapped shape (then (need o Refusal.CellSymbol w.index) (into_set cells k i set w)) ≡ within_with (length cells) k i (is_empty set) w.index (counted o)
      go none = refl
      go (some new) = states new (only_states new) refl

  -- A row with one token more has the shape that its shape grows to.
  pub chunk-shaped : (row : Row) → mapped shape (chunk f row w) ≡ chunk_shape codes (shape row) w
  unfolding chunk chunk_shape shape pick mapped closed is_empty
  chunk-shaped (plain cells) =
      by-test (punct (byte "{") w) (λ e. rw e refl) (λ e. by-test (punct (byte "(") w) (λ p. rw (e, p) refl) (λ p. rw (e, p) (plain-shaped cells)))
  chunk-shaped (within cells k i set) = by-test (punct (closer k) w) (λ e. rw e (ended set)) (λ e. rw e (within-shaped cells k i set))
    where
      ended : (s : List ℕ) → mapped shape (closed cells k i s) ≡ pick (is_empty s) (refused Refusal.StateSet i) (done (Chunk.Plain (length cells + 1)))
      ended [] = refl
      ended (j ∷ r) = rw (length-append cells (set_cell k (j ∷ r) ∷ [])) refl
