-- What the first byte of a token says of it: a mark is that byte, a newline begins with LF or CR, and a keyword with its own first byte, ASCII case
-- ignored. Assumes nothing.
use Prim.Native.Nat.{ℕ, ◌+◌, ◌<◌, ◌≤◌}
use Rattle.lexer.proofs.Basics.{by-test, chosen}
use Rattle.lexer.proofs.ListLaws.{drop-cases, drop-next}
use Rattle.lexer.proofs.TokenParts.{kind-past, text-past}
use Rattle.lexer.specs.Base.{pick, among, lower, alike}
use Rattle.lexer.specs.Classes.{class, marks, symbol, symbol_of, wide_blank, rank, is_newline, is_single, is_double, is_other}
use Rattle.lexer.specs.Lexing.{token_at, first_token, word_at}
use Rattle.lexer.specs.Tokens.{Token, token, kind_of, text_of}
use Rattle.lexer.specs.Words.{is, punct, is_mark, is_word, is_line_end}
use Rattle.lexer.specs.declared.Class.{Class}
use Rattle.lexer.specs.declared.Kind.{Kind}
use Rattle.lexer.specs.declared.Symbol.{Symbol}
use borrow.Author.Tests.{ne_eqb, ltb-true, ltb-false}
use lib.Dec.{eqb, ltb}
use lib.ListN.{length, get_or, drop, get_or-eq_default}
use mathlib.Core.Bool.{true, false, ◌&&◌, ◌||◌}
use mathlib.Core.List.{List, [], ◌∷◌}
use mathlib.Core.Path.{◌≡◌, refl, sym}
use native.Mathlib.Omega.{arith}

-- Another byte is not the mark, whatever its symbol.
unmarked : (b x : ℕ) → eqb x b ≡ false → (s : Symbol) → is_mark b (kind_of s x) ≡ false
unfolding is_mark kind_of is_newline is_single is_double is_other rank pick
unmarked b x e Symbol.Newline = refl
unmarked b x e Symbol.Return = e
unmarked b x e Symbol.Blank = e
unmarked b x e Symbol.Single = refl
unmarked b x e Symbol.Double = refl
unmarked b x e Symbol.Open = e
unmarked b x e Symbol.Close = e
unmarked b x e Symbol.Punctuation = e
unmarked b x e Symbol.Other = refl
unmarked b x e Symbol.Part = e

-- A byte of another class than a newline begins none.
module _ (x : ℕ) (r : List ℕ) where
  abbrev NoLine : Class → Type 0
  NoLine k = is_line_end (kind_of (symbol_of k x r) x) ≡ false

  abbrev Unended : Symbol → Type 0
  Unended s = is_line_end (kind_of s x) ≡ false

  unended : eqb x 10 ≡ false → eqb x 13 ≡ false → NoLine (class x)
  unfolding class pick symbol_of is_line_end kind_of is_newline is_single is_double is_other rank
  unended e e' =
      rw (e, e')
      (chosen NoLine (eqb x 9 || eqb x 11 || eqb x 12 || eqb x 32) (λ _. refl)
      (λ _. chosen NoLine (eqb x 39 || eqb x 34) (λ _. chosen Unended (eqb x 39) (λ _. refl) (λ _. refl))
      (λ _. chosen NoLine (eqb x 91) (λ _. refl)
      (λ _. chosen NoLine (among x marks) (λ _. chosen Unended (eqb x 93) (λ _. refl) (λ _. refl))
      (λ _. chosen NoLine (ltb x 128) (λ _. refl)
      (λ _. chosen Unended (ltb x 192) (λ _. refl) (λ _. chosen Unended (wide_blank x r) (λ _. refl) (λ _. refl))))))))

-- A word that begins with another byte than the key is not the key, and other tokens are none.
unlike : (key : List ℕ) (b : ℕ) (r : List ℕ) → eqb (lower (get_or key 0 0)) (lower b) ≡ false → (s : Symbol) → is_word (kind_of s b) && alike key (text_of s b r) ≡ false
unfolding is_word kind_of text_of is_newline is_single is_double is_other rank pick alike
unlike key b r e Symbol.Newline = refl
unlike key b r e Symbol.Return = refl
unlike key b r e Symbol.Blank = refl
unlike key b r e Symbol.Single = refl
unlike key b r e Symbol.Double = refl
unlike key b r e Symbol.Open = refl
unlike key b r e Symbol.Close = refl
unlike key b r e Symbol.Punctuation = refl
unlike [] b r e Symbol.Other = refl
unlike (k ∷ key) b r e Symbol.Other = rw e
unlike key b r e Symbol.Part = refl

module _ (text : List ℕ) (i : ℕ) where
  -- What holds of the token at a byte, and of a word without bytes, holds of the one at an index.
  token-cases : (P : Token → Type 0) → (i < length text → P (token (get_or text i 0) (drop (i + 1) text))) → P (record { kind = Kind.Word; text = [] }) → P (token_at text i)
  unfolding token_at first_token
  token-cases P here past = drop-cases (λ l. P (first_token l)) text i here past

  -- Another byte than the mark begins no such mark.
  pub mark-first : (b : ℕ) → (get_or text i 0 ≡ b → ⊥) → false ≡ punct b (word_at text i)
  unfolding punct word_at is_mark token
  mark-first b ne =
      sym (token-cases (λ t. is_mark b t.kind ≡ false) (λ h. unmarked b (get_or text i 0) (ne_eqb (get_or text i 0) b ne) (symbol (get_or text i 0) (drop (i + 1) text))) refl)

  -- Another byte than LF and CR begins no newline.
  pub line_first : (get_or text i 0 ≡ 10 → ⊥) → (get_or text i 0 ≡ 13 → ⊥) → false ≡ is_line_end (token_at text i).kind
  unfolding is_line_end token symbol
  line_first feed return =
      sym (token-cases (λ t. is_line_end t.kind ≡ false) (λ h. unended (get_or text i 0) (drop (i + 1) text) (ne_eqb (get_or text i 0) 10 feed) (ne_eqb (get_or text i 0) 13 return)) refl)

  -- LF begins one.
  pub line-feed : get_or text i 0 ≡ 10 → true ≡ is_line_end (token_at text i).kind
  line-feed e = by-test (ltb i (length text)) (λ t. sym (here (ltb-true i (length text) t))) (λ f. past (get_or-eq_default text 0 (ltb-false i (length text) f)))
    where
      past : get_or text i 0 ≡ 0 → true ≡ is_line_end (token_at text i).kind
      past z = let no : ◌≡◌ {A = ℕ} 0 10 = cc in absurd (omega arith)

      here : i < length text → is_line_end (token_at text i).kind ≡ true
      here h = unfold token_at first_token token symbol symbol_of class is_line_end kind_of is_newline rank pick in rw (drop-next text i h, e)

  -- Another byte than the first of a key, ASCII case ignored, begins no word that is the key.
  pub key-first : (key : List ℕ) → (lower (get_or key 0 0) ≡ lower (get_or text i 0) → ⊥) → false ≡ is key (word_at text i)
  unfolding is word_at token
  key-first key ne = by-test (ltb i (length text)) (λ t. sym (here (ltb-true i (length text) t))) (λ f. sym (past (ltb-false i (length text) f)))
    where
      here : i < length text → is_word (token_at text i).kind && alike key (token_at text i).text ≡ false
      here h = unfold token_at first_token token in rw (drop-next text i h) (unlike key (get_or text i 0) (drop (i + 1) text) (ne_eqb (lower (get_or key 0 0)) (lower (get_or text i 0)) ne) (symbol (get_or text i 0) (drop (i + 1) text)))

      none : (k : List ℕ) → k ≡ key → get_or text i 0 ≡ 0 → is_word Kind.Word && alike k [] ≡ false
      none [] e z = absurd (ne (rw (← e, z)))
      none (a ∷ k) e z = unfold alike is_word in refl

      past : length text ≤ i → is_word (token_at text i).kind && alike key (token_at text i).text ≡ false
      past h = rw (← kind-past text i h, text-past text i h) (none key refl (get_or-eq_default text 0 h))
