-- The kind and the text of the token that begins at a byte, by the byte's symbol. Assumes nothing.
use Prim.Native.Nat.{ℕ, ◌+◌, ◌≤◌, ◌<◌}
use Rattle.lexer.proofs.ListLaws.{drop-next}
use Rattle.lexer.specs.Base.{pick}
use Rattle.lexer.specs.Bytes.{cursor, front_at, front_of}
use Rattle.lexer.specs.Classes.{symbol, rank, is_newline, is_single, is_double, is_other}
use Rattle.lexer.specs.Lexing.{token_at, first_token}
use Rattle.lexer.specs.Scanning.{symbol_at, first_symbol}
use Rattle.lexer.specs.Tokens.{token, kind_of, text_of}
use Rattle.lexer.specs.declared.Kind.{Kind}
use Rattle.lexer.specs.declared.Mode.{Mode}
use Rattle.lexer.specs.declared.Symbol.{Symbol}
use lib.ListN.{length, get_or, drop, drop_of_length-le}
use mathlib.Core.List.{List, []}
use mathlib.Core.Path.{◌≡◌, refl, sym, ◌∙◌}

-- A symbol at which a punctuation mark begins, if a token does.
abbrev Marks : Symbol → Type 0
Marks s = (s ≡ Symbol.Newline → ⊥) × (s ≡ Symbol.Single → ⊥) × (s ≡ Symbol.Double → ⊥) × (s ≡ Symbol.Other → ⊥)

kind-marks : (s : Symbol) (b : ℕ) → Marks s → kind_of s b ≡ Kind.Punctuation b
unfolding kind_of is_newline is_single is_double is_other rank pick
kind-marks Symbol.Newline b m = absurd (m.0 refl)
kind-marks Symbol.Return b m = refl
kind-marks Symbol.Blank b m = refl
kind-marks Symbol.Single b m = absurd (m.1 refl)
kind-marks Symbol.Double b m = absurd (m.2 refl)
kind-marks Symbol.Open b m = refl
kind-marks Symbol.Close b m = refl
kind-marks Symbol.Punctuation b m = refl
kind-marks Symbol.Other b m = absurd (m.3 refl)
kind-marks Symbol.Part b m = refl

front-marks : (s : Symbol) (i : ℕ) → Marks s → front_of s i ≡ cursor Mode.Between i
unfolding front_of is_newline is_single is_double is_other rank pick
front-marks Symbol.Newline i m = absurd (m.0 refl)
front-marks Symbol.Return i m = refl
front-marks Symbol.Blank i m = refl
front-marks Symbol.Single i m = absurd (m.1 refl)
front-marks Symbol.Double i m = absurd (m.2 refl)
front-marks Symbol.Open i m = refl
front-marks Symbol.Close i m = refl
front-marks Symbol.Punctuation i m = refl
front-marks Symbol.Other i m = absurd (m.3 refl)
front-marks Symbol.Part i m = refl

module _ (text : List ℕ) (i : ℕ) (h : i < length text) (s : Symbol) (is : s ≡ symbol_at text i) where
  pub here : s ≡ symbol (get_or text i 0) (drop (i + 1) text)
  unfolding symbol_at first_symbol
  here = is ∙ rw (drop-next text i h)

  kind-symbol : (token_at text i).kind ≡ kind_of s (get_or text i 0)
  unfolding token_at first_token token
  kind-symbol = rw (drop-next text i h, here)

  pub text-symbol : (token_at text i).text ≡ text_of s (get_or text i 0) (drop (i + 1) text)
  unfolding token_at first_token token
  text-symbol = rw (drop-next text i h, here)

  pub kind-newline : s ≡ Symbol.Newline → Kind.Newline ≡ (token_at text i).kind
  unfolding kind_of is_newline rank pick
  kind-newline e = sym (kind-symbol ∙ rw e)

  pub kind-single : s ≡ Symbol.Single → Kind.Quoted ≡ (token_at text i).kind
  unfolding kind_of is_newline is_single rank pick
  kind-single e = sym (kind-symbol ∙ rw e)

  pub kind-double : s ≡ Symbol.Double → Kind.String ≡ (token_at text i).kind
  unfolding kind_of is_newline is_single is_double rank pick
  kind-double e = sym (kind-symbol ∙ rw e)

  pub kind-word : s ≡ Symbol.Other → Kind.Word ≡ (token_at text i).kind
  unfolding kind_of is_newline is_single is_double is_other rank pick
  kind-word e = sym (kind-symbol ∙ rw e)

  pub kind-mark : Marks s → Kind.Punctuation (get_or text i 0) ≡ (token_at text i).kind
  kind-mark m = sym (kind-symbol ∙ kind-marks s (get_or text i 0) m)

  -- The cursor at the front of the token's text
  pub front-symbol : front_at text i ≡ front_of s i
  unfolding front_at
  front-symbol = rw is

  pub front-newline : s ≡ Symbol.Newline → cursor (Mode.Comment 0) i ≡ front_at text i
  unfolding front_of is_newline rank pick
  front-newline e = sym (front-symbol ∙ rw e)

  pub front-single : s ≡ Symbol.Single → cursor Mode.Quoted (i + 1) ≡ front_at text i
  unfolding front_of is_newline is_single rank pick
  front-single e = sym (front-symbol ∙ rw e)

  pub front-double : s ≡ Symbol.Double → cursor Mode.String (i + 1) ≡ front_at text i
  unfolding front_of is_newline is_single is_double rank pick
  front-double e = sym (front-symbol ∙ rw e)

  pub front-word : s ≡ Symbol.Other → cursor Mode.Word i ≡ front_at text i
  unfolding front_of is_newline is_single is_double is_other rank pick
  front-word e = sym (front-symbol ∙ rw e)

  pub front-mark : Marks s → cursor Mode.Between i ≡ front_at text i
  front-mark m = sym (front-symbol ∙ front-marks s i m)

-- Past the end of the text there is a word without bytes.
module _ (text : List ℕ) (i : ℕ) (past : length text ≤ i) where
  pub kind-past : Kind.Word ≡ (token_at text i).kind
  unfolding token_at first_token
  kind-past = rw (drop_of_length-le text past)

  pub text-past : (token_at text i).text ≡ []
  unfolding token_at first_token
  text-past = rw (drop_of_length-le text past)

  pub front-past : cursor Mode.Between i ≡ front_at text i
  unfolding front_at symbol_at first_symbol front_of is_newline is_single is_double is_other rank pick
  front-past = rw (drop_of_length-le text past)
