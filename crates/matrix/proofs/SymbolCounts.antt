-- A token's text is no longer than the text, and so a token adds no more cells to a row than the text has bytes, or one. Assumes nothing.
use Rattle.std.proofs.lemmas.Option.{some_pair_parts}
use Rattle.std.specs.Prelude.{Some, None, Option}
use Prim.Native.Nat.{ℕ, zero, suc, ◌+◌, ◌-◌, ◌≤◌, ◌<◌}
use Rattle.block.proofs.OutcomeLaws.{pick-either, pick-when, pick-else, refused-done, done_inj}
use Rattle.block.specs.Chunk.{closer}
use Rattle.block.specs.Outcome.{done}
use Rattle.block.specs.declared.kinds.Bracket.{Bracket}
use Rattle.lexer.proofs.Basics.{by-test}
use Rattle.lexer.proofs.NextBytes.{front-left, yielded}
use Rattle.lexer.specs.Base.{pick}
use Rattle.lexer.specs.Bytes.{front_at, next_item, left}
use Rattle.lexer.specs.Lexing.{token_at}
use Rattle.lexer.specs.Stored.{word_of}
use Rattle.lexer.specs.Words.{punct, is_word}
use Rattle.lexer.specs.declared.Cursor.{Cursor}
use Rattle.lexer.specs.declared.refusal.Refusal.{Refusal}
use Rattle.matrix.specs.RowShape.{coded, so_far, symbols_coded, plain_with, within_with, chunk_shape}
use Rattle.matrix.specs.declared.matrix.Chunk.{Chunk}
use lib.Dec.{eqb, ltb}
use lib.ListN.{length, get_or}
use mathlib.Core.Bool.{Bool, true, ◌&&◌, ◌||◌}
use mathlib.Core.List.{List, [], ◌∷◌}
use mathlib.Core.Path.{◌≡◌, refl}
use native.Mathlib.Omega.{arith}

-- What is left of a token's text, by the next byte of it.
by-item : (text : List ℕ) (c : Cursor) (n : ℕ) (r : Option (ℕ × Cursor)) → r ≡ next_item text c
    → ((d : Cursor) → c.at < d.at → d.at ≤ length text → suc (length (left text d)) ≤ n) → length (left text c) ≤ n
by-item text c n (Some (b, d)) e more = let y = (yielded text c (Some (b, d)) e).byte b d refl in rw y.here (more d y.ahead y.within)
by-item text c n None e more = rw ((yielded text c None e).end refl) (omega arith)

left-size : (text : List ℕ) (n : ℕ) (c : Cursor) → length text - c.at ≤ n → length (left text c) ≤ n
left-size text zero c h = by-item text c zero (next_item text c) refl (λ d a w. absurd (omega arith))
left-size text (suc m) c h = by-item text c (suc m) (next_item text c) refl (λ d a w. let k = left-size text m d (omega arith) in omega arith)

token-size : (text : List ℕ) (i : ℕ) → length (token_at text i).text ≤ length text
token-size text i = rw (front-left text i (front_at text i) refl) at (left-size text (length text) (front_at text i) (omega arith))

-- A word has as many cells as its text has bytes.
cells-inj : {n k : ℕ} {s t : Bool} → ◌≡◌ {A = Option (ℕ × Bool)} (Some (n, s)) (Some (k, t)) → n ≡ k
cells-inj h = (some_pair_parts _ _ _ _ h).0

wrong-some : {X : Type 0} {k : ℕ} {t : Bool} → ◌≡◌ {A = Option (ℕ × Bool)} None (Some (k, t)) → X
wrong-some {X} {k} {t} h = absurd (let z : ◌≡◌ {A = ℕ} 0 1 = cc in omega arith)

coded-size : (codes : List ℕ) (n : ℕ) (s : Bool) (bytes : List ℕ) (k : ℕ) (t : Bool) → coded codes n s bytes ≡ Some (k, t) → k ≡ n + length bytes
unfolding coded pick
coded-size codes n s [] k t h = let e = cells-inj h in omega arith
coded-size codes n s (b ∷ r) k t h =
    by-test (eqb (get_or codes b 0) 255) (λ e. wrong-some (rw e at h))
    (λ e. let z = coded-size codes (n + 1) (s && ltb (get_or codes b 0) 96) r k t (rw e at h) in omega arith)

module _ (text work codes : List ℕ) (i : ℕ) where
  pub symbols-size : (k : ℕ) (t : Bool) → symbols_coded codes (word_of text work i) ≡ Some (k, t) → k ≤ length text
  unfolding symbols_coded pick word_of
  symbols-size k t h =
      by-test (is_word (word_of text work i).token.kind || punct 43 (word_of text work i))
      (λ e. let z = coded-size codes 0 true (token_at text (get_or work i 0)).text k t (rw e at h) in omega (arith, token-size text (get_or work i 0)))
      (λ e. wrong-some (rw e at h))

  plain-size : (n : ℕ) (row : Chunk) (o : Option (ℕ × Bool)) → symbols_coded codes (word_of text work i) ≡ o → plain_with n i o ≡ done row → so_far row ≤ n + length text + 1
  unfolding plain_with so_far
  plain-size n row (Some (k, t)) e h = rw (← done_inj h) (let z = symbols-size k t e in omega arith)
  plain-size n row None e h = refused-done Refusal.CellSymbol i row h

  set-size : (n : ℕ) (kind : Bracket) (mark : ℕ) (none : Bool) (row : Chunk) (o : Option (ℕ × Bool)) → within_with n kind mark none i o ≡ done row → so_far row ≤ n + length text + 1
  unfolding within_with so_far
  set-size n kind mark none row (Some (k, t)) h =
      let z = pick-when t Refusal.StateSet i (done (Chunk.Within n kind mark (none && eqb k 0))) row h in
      rw (← done_inj z.1) (omega arith)
  set-size n kind mark none row None h = refused-done Refusal.CellSymbol i row h

  -- A row with one token more has at most so many cells more.
  pub chunk-size : (old row : Chunk) → chunk_shape codes old (word_of text work i) ≡ done row → so_far row ≤ so_far old + length text + 1
  unfolding chunk_shape so_far word_of
  chunk-size (Chunk.Plain n) row h =
      pick-either (punct 123 (word_of text work i)) (done (Chunk.Within n Bracket.Brace i true)) _ row (λ e. rw (← done_inj e) (omega arith))
      (pick-either (punct 40 (word_of text work i)) (done (Chunk.Within n Bracket.Parenthesis i true)) _ row (λ e. rw (← done_inj e) (omega arith)) (plain-size n row (symbols_coded codes (word_of text work i)) refl)) h
  chunk-size (Chunk.Within n kind mark none) row h =
      pick-either (punct (closer kind) (word_of text work i)) _ _ row
      (λ e. let z = pick-else none Refusal.StateSet mark (done (Chunk.Plain (n + 1))) row e in rw (← done_inj z.1) (omega arith))
      (set-size n kind mark none row (symbols_coded codes (word_of text work i))) h
