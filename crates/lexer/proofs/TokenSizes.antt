-- The texts of a text's tokens are together no longer than the text. Assumes nothing.
use Prim.Native.Nat.{ℕ, suc, ◌+◌, ◌≤◌}
use Rattle.lexer.proofs.Basics.{by-test}
use Rattle.lexer.proofs.MarkLaws.{unmarked-length}
use Rattle.lexer.proofs.SymbolLaws.{each-symbol}
use Rattle.lexer.specs.Base.{pick}
use Rattle.lexer.specs.Classes.{symbol, rank, is_newline, is_return, is_blank, is_single, is_double, is_open, is_close, is_other, is_part}
use Rattle.lexer.specs.Tokens.{Token, tail, text_step, next, after_between, after_word, token, text_of, tokens_from, begins, begins_between, unclosed, tokens, unmarked}
use Rattle.lexer.specs.declared.Mode.{Mode}
use Rattle.lexer.specs.declared.Symbol.{Symbol}
use lib.ListN.{length}
use mathlib.Core.Bool.{Bool, true, false, ◌||◌}
use mathlib.Core.List.{List, [], ◌∷◌}
use native.Mathlib.Omega.{arith}

-- The bytes of the tokens' texts, counted.
unfoldable pub size : List Token → ℕ
size [] = 0
size (t ∷ r) = length t.text + size r

module _ (b : ℕ) (r : List ℕ) where
  -- a token's text is at most its first byte and what the mode behind it adds
  begun-small : (s : Symbol) → length (text_of s b r) ≤ suc (length (tail (after_between s) r))
  unfolding text_of after_between pick rank is_newline is_return is_blank is_single is_double is_open is_close is_other is_part
  begun-small =
      each-symbol (λ s. length (text_of s b r) ≤ suc (length (tail (after_between s) r)))
      (omega arith) (omega arith) (omega arith) (omega arith) (omega arith) (omega arith) (omega arith) (omega arith) (omega arith) (omega arith)

  -- what a byte adds to the texts of tokens: to that of the open token and to that of a token that begins with it
  abbrev Adds : Mode → Symbol → Type 0
  Adds m s = pick (begins m s) (length (text_of s b r)) 0 + length (text_step m s b (tail (next m s) r)) ≤ suc (length (tail (next m s) r))

  test-small : (t : Bool) (l : ℕ) (more : List ℕ) → l ≤ suc (length more) → pick t l 0 + 0 ≤ suc (length more)
  unfolding pick
  test-small true l more h = omega arith
  test-small false l more h = omega arith

  word-adds : (s : Symbol) → Adds Mode.Word s
  unfolding begins begins_between text_step next after_word after_between text_of pick rank is_newline is_return is_blank is_single is_double is_open is_close is_other is_part
  word-adds = each-symbol (Adds Mode.Word) (omega arith) (omega arith) (omega arith) (omega arith) (omega arith) (omega arith) (omega arith) (omega arith) (omega arith) (omega arith)

  closing-adds : (s : Symbol) → Adds Mode.Closing s
  unfolding begins begins_between text_step next after_between text_of pick rank is_newline is_return is_blank is_single is_double is_open is_close is_other is_part
  closing-adds = each-symbol (Adds Mode.Closing) (omega arith) (omega arith) (omega arith) (omega arith) (omega arith) (omega arith) (omega arith) (omega arith) (omega arith) (omega arith)

  adds : (m : Mode) (s : Symbol) → Adds m s
  unfolding begins text_step next pick
  adds Mode.Between s = test-small (begins_between s) (length (text_of s b r)) (tail (after_between s) r) (begun-small s)
  adds Mode.Word s = word-adds s
  adds Mode.Quoted s = by-test (is_single s || is_return s) (λ e. rw e (omega arith)) (λ e. rw e (omega arith))
  adds Mode.Closing s = closing-adds s
  adds Mode.String s = by-test (is_double s) (λ e. rw e (omega arith)) (λ e. rw e (by-test (is_return s) (λ p. rw p (omega arith)) (λ p. rw p (omega arith))))
  adds (Mode.Comment d) s = omega arith
  adds (Mode.WordComment d) s = omega arith

unclosed-none : (m : Mode) → size (unclosed m) ≤ 0
unfolding unclosed size
unclosed-none Mode.Between = omega arith
unclosed-none Mode.Word = omega arith
unclosed-none Mode.Quoted = omega arith
unclosed-none Mode.Closing = omega arith
unclosed-none Mode.String = omega arith
unclosed-none (Mode.Comment d) = omega arith
unclosed-none (Mode.WordComment d) = omega arith

-- The tokens that begin in a text and the rest of the open one together.
from-small : (r : List ℕ) (m : Mode) → size (tokens_from m r) + length (tail m r) ≤ length r
unfolding tokens_from tail size pick token
from-small [] m = let u = unclosed-none m in omega arith
from-small (b ∷ r) m =
    let s = symbol b r in
    let k = from-small r (next m s) in
    let a = adds b r m s in
    by-test (begins m s) (λ e. rw e (let h = rw e at a in omega arith)) (λ e. rw e (let h = rw e at a in omega arith))

pub tokens-small : (text : List ℕ) → size (tokens text) ≤ length text
unfolding tokens
tokens-small text = let k = from-small (unmarked text) Mode.Between in omega (arith, unmarked-length text)
