-- A word of cells is read byte by byte, and so is a symbol that joins it. Assumes nothing.
use Prim.Native.Nat.{ℕ}
use Rattle.block.specs.Cell.{Cell, state, insert, insert_all}
use Rattle.block.specs.Chunk.{plain, within, closer, chunk, cell, cells_of, before, symbols, only_states, with_state, into_set}
use Rattle.block.specs.Format.{Format}
use Rattle.block.specs.Outcome.{Outcome, done, then, need}
use Rattle.block.specs.declared.kinds.Bracket.{Bracket}
use Rattle.lexer.specs.Tokens.{Token}
use Rattle.lexer.specs.Words.{Numbered, is_word, is_mark, is_line_end}
use Rattle.lexer.specs.declared.Kind.{Kind}
use Rattle.lexer.specs.declared.refusal.Refusal.{Refusal}
use Rattle.record.proofs.CommandLaws.{at, Turns, sign-cases, words_from}
use Rattle.record.proofs.FormTokens.{word, sign_joined}
use Rattle.record.proofs.SetLaws.{insert-all-comm}
use mathlib.Core.Bool.{true, false, ◌||◌}
use mathlib.Core.List.{List, [], ◌∷◌, ◌++◌, append_assoc, append-nil}
use mathlib.Core.Option.{Option, none, some}
use mathlib.Core.Path.{◌≡◌, refl, sym, ap, ◌∙◌}

-- A token of this kind can hold symbols: it is a word or `+`.
pub record Symbolic (k : Kind) : Type 0 where
  pub some-symbol : is_word k || is_mark 43 k ≡ true
  pub no-line : is_line_end k ≡ false
  pub no_end : is_mark 59 k ≡ false
  pub no-brace : is_mark 123 k ≡ false
  pub no-parenthesis : is_mark 40 k ≡ false
  pub no-closer : (b : Bracket) → is_mark (closer b) k ≡ false

pub word-symbolic : Symbolic Kind.Word
unfolding words_from
word-symbolic = record { some-symbol = refl; no-line = refl; no_end = refl; no-brace = refl; no-parenthesis = refl; no-closer = λ b. refl }

plus-closes-not : (b : Bracket) → is_mark (closer b) (Kind.Punctuation 43) ≡ false
unfolding words_from closer
plus-closes-not Bracket.Brace = refl
plus-closes-not Bracket.Parenthesis = refl

plus-symbolic : Symbolic (Kind.Punctuation 43)
unfolding words_from
plus-symbolic = record { some-symbol = refl; no-line = refl; no_end = refl; no-brace = refl; no-parenthesis = refl; no-closer = plus-closes-not }

module _ (f : Format) (k : Kind) (can : Symbolic k) (b : ℕ) (u : List ℕ) (i : ℕ) where
  -- The first byte of a text of cells may as well have been read before.
  pub chunk-byte : (c : Cell) (cells : List Cell) → cell f b ≡ some c → chunk f (plain cells) (at i (record { kind = k; text = b ∷ u })) ≡ chunk f (plain (cells ++ (c ∷ []))) (at i (record { kind = k; text = u }))
  unfolding words_from chunk symbols cells_of before
  chunk-byte c cells e = rw (can.no-brace, can.no-parenthesis, can.some-symbol, e) (go (cells_of f u))
    where
      go : (o : Option (List Cell))
          → then (need (before (some c) o) Refusal.CellSymbol i) (λ new. done (plain (cells ++ new))) ≡ then (need o Refusal.CellSymbol i) (λ new. done (plain ((cells ++ (c ∷ [])) ++ new)))
      go none = refl
      go (some cs) = ap (λ l. done (plain l)) (sym (append_assoc cells (c ∷ []) cs))

  -- In a set likewise.
  pub set-byte : (j : ℕ) (cells : List Cell) (s : Bracket) (o : ℕ) (set : List ℕ) → cell f b ≡ some (state j) → chunk f (within cells s o set) (at i (record { kind = k; text = b ∷ u })) ≡ chunk f (within cells s o (insert j set)) (at i (record { kind = k; text = u }))
  unfolding words_from chunk symbols cells_of before into_set only_states with_state insert_all
  set-byte j cells s o set e = rw (can.no-closer s, can.some-symbol, e) (go (cells_of f u))
    where
      states : (p : Option (List ℕ))
          → then (need (with_state j p) Refusal.StateSet i) (λ new. done (within cells s o (insert_all new set))) ≡ then (need p Refusal.StateSet i) (λ new. done (within cells s o (insert_all new (insert j set))))
      states none = refl
      states (some new) = ap (λ l. done (within cells s o l)) (sym (insert-all-comm new j set))

      go : (p : Option (List Cell)) → then (need (before (some (state j)) p) Refusal.CellSymbol i) (into_set cells s o set (at i (record { kind = k; text = b ∷ u }))) ≡ then (need p Refusal.CellSymbol i) (into_set cells s o (insert j set) (at i (record { kind = k; text = u })))
      go none = refl
      go (some cs) = states (only_states cs)

-- A token that is one symbol.
module _ (f : Format) (k : Kind) (can : Symbolic k) (b i : ℕ) where
  pub chunk-symbol : (c : Cell) (cells : List Cell) → cell f b ≡ some c → chunk f (plain cells) (at i (record { kind = k; text = b ∷ [] })) ≡ done (plain (cells ++ (c ∷ [])))
  unfolding words_from chunk symbols cells_of
  chunk-symbol c cells e =
      chunk-byte f k can b [] i c cells e ∙ rw (can.no-brace, can.no-parenthesis, can.some-symbol) (ap (λ l. done (plain l)) (append-nil (cells ++ (c ∷ []))))

  pub set-symbol : (j : ℕ) (cells : List Cell) (s : Bracket) (o : ℕ) (set : List ℕ) → cell f b ≡ some (state j) → chunk f (within cells s o set) (at i (record { kind = k; text = b ∷ [] })) ≡ done (within cells s o (insert j set))
  unfolding words_from chunk symbols cells_of into_set only_states insert_all
  set-symbol j cells s o set e =
      set-byte f k can b [] i j cells s o set e ∙ rw (can.no-closer s, can.some-symbol) refl

-- A symbol in front of tokens: a token of its own, or the first byte of the word that they begin with.
pub sign-joined-turned : {S : Type 0} {turn : S → Numbered → Outcome S} {s t : S} (b : ℕ) (ts : List Token) → ((k : Kind) → Symbolic k → Turns turn s (record { kind = k; text = b ∷ [] } ∷ ts) t) → ((u : List ℕ) (r : List Token) → ts ≡ word u ∷ r → Turns turn s (word (b ∷ u) ∷ r) t) → Turns turn s (sign_joined b ts) t
sign-joined-turned {turn = turn} {s = s} {t = t} b ts alone joins =
    sign-cases (λ l. Turns turn s l t) b ts (λ e. rw e at (alone (Kind.Punctuation 43) plus-symbolic)) (alone Kind.Word word-symbolic) joins
