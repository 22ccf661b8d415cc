-- Every token of a UTF-8 text has a text that is UTF-8 without a CR. Assumes nothing.
use Prim.Native.Nat.{ℕ, zero, suc, ◌≤◌}
use Rattle.lexer.proofs.Basics.{by-test, and_left, and_right, and_both, or-both}
use Rattle.lexer.proofs.SymbolLaws.{symbol-high-cases}
use Rattle.lexer.specs.Base.{pick, among}
use Rattle.lexer.specs.Classes.{symbol, rank, is_newline, is_return, is_blank, is_single, is_double, is_open, is_close, is_other, is_part}
use Rattle.lexer.specs.Tokens.{Token, tail, next, token, text_of, tokens_from, begins, begins_between, unclosed, tokens, marked, unmarked}
use Rattle.lexer.specs.Utf8.{utf8, utf8_from, after_lead, is_lead, follow}
use Rattle.lexer.specs.declared.Mode.{Mode}
use Rattle.lexer.specs.declared.Symbol.{Symbol}
use borrow.Author.Tests.{ne_eqb, ltb-false, eqb-true}
use lib.Dec.{eqb, ltb, lit≤}
use mathlib.Core.Bool.{Bool, true, false, ◌&&◌, not, false≢true}
use mathlib.Core.List.{List, [], ◌∷◌}
use mathlib.Core.Path.{◌≡◌, refl, sym, ◌∙◌}
use native.Mathlib.Omega.{arith}
use Rattle.lexer.proofs.TextReturns.{returnless, unless-return}
use Rattle.lexer.proofs.TextUtf8.{kept, behind, after-ascii, later-byte, range-free}

unfoldable pub clean-text : List ℕ → Bool
clean-text text = utf8 text && not (among 13 text)

unfoldable pub all-clean : List Token → Bool
all-clean [] = true
all-clean (t ∷ r) = clean-text t.text && all-clean r

cleaned : (text : List ℕ) → utf8_from 0 128 191 text ≡ true → among 13 text ≡ false → clean-text text ≡ true
unfolding clean-text utf8
cleaned text u c = and_both u (rw c)

-- A token that begins at the front of a character is clean.
module _ (b : ℕ) (r : List ℕ) (h : utf8_from 0 128 191 (b ∷ r) ≡ true) where
  Clean : ℕ → Symbol → Type 0
  Clean c s = begins_between s ≡ true → clean-text (text_of s c r) ≡ true

  word-clean : eqb 13 b ≡ false → clean-text (b ∷ tail Mode.Word r) ≡ true
  unfolding among
  word-clean e =
      let f = behind 0 128 191 b r h in
      cleaned (b ∷ tail Mode.Word r) (f.before (tail Mode.Word r) ((kept r).word f.more f.from f.to f.later f.last f.rest)) (or-both e (returnless r).word)

  token-clean : Clean b (symbol b r)
  unfolding begins_between text_of pick rank is_newline is_return is_blank is_single is_double is_open is_close is_other is_part Clean
  token-clean = by-test (ltb b 128) ascii longer
    where
      longer : ltb b 128 ≡ false → Clean b (symbol b r)
      longer e =
          let high : 128 ≤ b = ltb-false b 128 e in
          symbol-high-cases (Clean b) b r high (λ p. absurd (false≢true p)) (λ p. absurd (false≢true p)) (λ p. word-clean (ne_eqb 13 b (λ q. omega arith)))

      ascii : ltb b 128 ≡ true → Clean b (symbol b r)
      ascii e = unless-return Clean b r (λ p. absurd (false≢true p)) (λ p. cleaned [] (unfold utf8_from in refl) (unfold among in refl)) go
        where
          rest : utf8_from 0 128 191 r ≡ true
          rest = after-ascii 128 191 b r e h

          alone : eqb 13 b ≡ false → clean-text (b ∷ []) ≡ true
          alone c = cleaned (b ∷ []) (unfold utf8_from in rw e refl) (unfold among in or-both c refl)

          go : eqb 13 b ≡ false → (s : Symbol) → Clean b s
          go c Symbol.Newline p = cleaned [] (unfold utf8_from in refl) (unfold among in refl)
          go c Symbol.Return p = absurd (false≢true p)
          go c Symbol.Blank p = absurd (false≢true p)
          go c Symbol.Single p = cleaned (tail Mode.Quoted r) ((kept r).quoted 0 128 191 (lit≤ tt) (lit≤ tt) rest) (returnless r).quoted
          go c Symbol.Double p = cleaned (tail Mode.String r) ((kept r).string 0 128 191 (lit≤ tt) (lit≤ tt) rest) (returnless r).string
          go c Symbol.Open p = absurd (false≢true p)
          go c Symbol.Close p = alone c
          go c Symbol.Punctuation p = alone c
          go c Symbol.Other p = word-clean c
          go c Symbol.Part p = absurd (false≢true p)

-- A token begins where one would begin between two tokens.
begins-between : (m : Mode) (s : Symbol) → begins m s ≡ true → begins_between s ≡ true
unfolding begins
begins-between Mode.Between s h = h
begins-between Mode.Word s h = and_left (begins_between s) (not (is_other s)) h
begins-between Mode.Quoted s h = absurd (false≢true h)
begins-between Mode.Closing s h = and_left (begins_between s) (not (is_single s)) h
begins-between Mode.String s h = absurd (false≢true h)
begins-between (Mode.Comment d) s h = absurd (false≢true h)
begins-between (Mode.WordComment d) s h = absurd (false≢true h)

unclosed-clean : (m : Mode) → all-clean (unclosed m) ≡ true
unfolding unclosed all-clean clean-text utf8 utf8_from among
unclosed-clean Mode.Between = refl
unclosed-clean Mode.Word = refl
unclosed-clean Mode.Quoted = refl
unclosed-clean Mode.Closing = refl
unclosed-clean Mode.String = refl
unclosed-clean (Mode.Comment d) = refl
unclosed-clean (Mode.WordComment d) = refl

-- Inside a character no token begins; at its front the token is clean.
begun-clean : (m : Mode) (n low high b : ℕ) (r : List ℕ) → 128 ≤ low → high ≤ 191 → utf8_from n low high (b ∷ r) ≡ true → begins m (symbol b r) ≡ true
    → clean-text (token b r).text ≡ true
unfolding token Clean
begun-clean m zero low high b r le he h e =
    token-clean b r (sym (range-free low high (b ∷ r)) ∙ h) (begins-between m (symbol b r) e)
begun-clean m (suc n) low high b r le he h e = absurd (false≢true (not-part (begins-between m Symbol.Part (rw (later-byte n low high b r le he h) at e))))
  where
    not-part : begins_between Symbol.Part ≡ true → false ≡ true
    not-part p = unfold begins_between rank is_part is_return is_blank is_open in p

tokens-clean-from : (r : List ℕ) (m : Mode) (n low high : ℕ) → 128 ≤ low → high ≤ 191 → utf8_from n low high r ≡ true → all-clean (tokens_from m r) ≡ true
unfolding tokens_from all-clean pick
tokens-clean-from [] m n low high le he h = unclosed-clean m
tokens-clean-from (b ∷ r) m n low high le he h =
    let f = behind n low high b r h in
    let k = tokens-clean-from r (next m (symbol b r)) f.more f.from f.to f.later f.last f.rest in
    by-test (begins m (symbol b r)) (λ e. rw e (and_both (begun-clean m n low high b r le he h e) k)) (λ e. rw e k)

-- Behind a byte order mark a UTF-8 text is UTF-8.
mark-utf8 : (a b c : ℕ) (r : List ℕ) → eqb a 239 && eqb b 187 && eqb c 191 ≡ true → utf8 (a ∷ b ∷ c ∷ r) ≡ utf8 r
unfolding utf8 utf8_from pick after_lead is_lead follow
mark-utf8 a b c r h =
    let both = and_left (eqb a 239 && eqb b 187) (eqb c 191) h in
    rw (eqb-true a 239 (and_left (eqb a 239) (eqb b 187) both), eqb-true b 187 (and_right (eqb a 239) (eqb b 187) both), eqb-true c 191 (and_right (eqb a 239 && eqb b 187) (eqb c 191) h)) refl

unmarked-utf8 : (text : List ℕ) → utf8 text ≡ true → utf8 (unmarked text) ≡ true
unfolding unmarked marked pick
unmarked-utf8 [] h = h
unmarked-utf8 (a ∷ []) h = h
unmarked-utf8 (a ∷ b ∷ []) h = h
unmarked-utf8 (a ∷ b ∷ c ∷ r) h =
    by-test (eqb a 239 && eqb b 187 && eqb c 191) (λ e. rw e (sym (mark-utf8 a b c r e) ∙ h)) (λ e. rw e h)

pub tokens-clean : (text : List ℕ) → utf8 text ≡ true → all-clean (tokens text) ≡ true
unfolding tokens utf8
tokens-clean text h = tokens-clean-from (unmarked text) Mode.Between 0 128 191 (lit≤ tt) (lit≤ tt) (unmarked-utf8 text h)
