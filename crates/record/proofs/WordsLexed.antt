-- Lexing pieces of a written form, whatever stands behind them: constant texts, marks and words. Each keeps UTF-8 too. Assumes nothing.
use Prim.Native.Nat.{ℕ}
use Rattle.lexer.proofs.Basics.{and_left, and_right}
use Rattle.lexer.specs.Base.{pick, is_empty}
use Rattle.lexer.specs.Classes
use Rattle.lexer.specs.Classes.{symbol}
use Rattle.lexer.specs.Run.{run_tokens}
use Rattle.lexer.specs.Tokens
use Rattle.lexer.specs.Tokens.{Token, tokens_from, tail}
use Rattle.lexer.specs.Utf8.{utf8}
use Rattle.lexer.specs.declared.Mode.{Mode}
use Rattle.lexer.specs.declared.Symbol.{Symbol}
use Rattle.record.proofs.FormTokens.{word, mark}
use Rattle.record.proofs.PlainBytes.{is_plain, plain-symbol, plain-ascii}
use Rattle.record.proofs.QuotedUtf8.{ascii-utf8}
use lib.Dec.{ltb}
use mathlib.Core.Bool.{Bool, true, false, ◌&&◌, true≢false}
use mathlib.Core.List.{List, [], ◌∷◌, ◌++◌}
use mathlib.Core.Path.{◌≡◌, refl, ap, ◌∙◌}

-- The text is UTF-8, and read between tokens it has these.
pub record Lexes (text : List ℕ) (ts : List Token) : Type 0 where
  pub well_formed : utf8 text ≡ true
  pub tokens : tokens_from Mode.Between text ≡ ts

-- Read inside a token, the text has this rest of it and then these tokens.
pub record Inside (m : Mode) (text rest : List ℕ) (ts : List Token) : Type 0 where
  pub ends : tail m text ≡ rest
  pub tokens : tokens_from m text ≡ ts

-- The text begins with what ends a word or a quoted text right before it.
pub record Parts (text : List ℕ) (ts : List Token) : Type 0 where
  pub between : Lexes text ts
  pub word : Inside Mode.Word text [] ts
  pub quote : Inside Mode.Closing text [] ts

-- One step of the lexer opened, the symbol of a byte shut: the proofs that go by the symbol open this.
unfoldable pub stepped : Mode → List ℕ → List Token
unfolding pick Classes.rank Classes.is_newline Classes.is_return Classes.is_blank Classes.is_single Classes.is_double Classes.is_open Classes.is_other Classes.is_part Tokens.after_between Tokens.after_word Tokens.next Tokens.quoted_byte Tokens.text_step Tokens.begins_between Tokens.begins Tokens.kind_of Tokens.text_of Tokens.token tail tokens_from
stepped m text = tokens_from m text

-- A constant text: both equations compute.
pub text-lexed : (text : List ℕ) (us : List Token) {r : List ℕ} {ts : List Token}
    → ((x : List ℕ) → utf8 (text ++ x) ≡ utf8 x)
    → ((x : List ℕ) → tokens_from Mode.Between (text ++ x) ≡ us ++ tokens_from Mode.Between x)
    → Lexes r ts
    → Lexes (text ++ r) (us ++ ts)
text-lexed text us {r} u t e =
    record { well_formed = u r ∙ e.well_formed; tokens = t r ∙ ap (λ (l : List Token). us ++ l) e.tokens }

-- A blank parts, and so does a punctuation mark, which is a token itself.
pub blank-parts : {r : List ℕ} {ts : List Token} → Lexes r ts → Parts (32 ∷ r) ts
unfolding run_tokens
blank-parts e =
    record {
      between = record { well_formed = e.well_formed; tokens = e.tokens };
      word = record { ends = refl; tokens = e.tokens };
      quote = record { ends = refl; tokens = e.tokens };
    }

pub mark-parts : (m : ℕ) {r : List ℕ} {ts : List Token}
    → ltb m 128 ≡ true → symbol m r ≡ Symbol.Punctuation → Lexes r ts → Parts (m ∷ r) (mark m ∷ ts)
unfolding stepped
mark-parts m {r} a s e =
    record {
      between = record { well_formed = ascii-utf8 m a r ∙ e.well_formed; tokens = rw (s, e.tokens) };
      word = record { ends = rw s; tokens = rw (s, e.tokens) };
      quote = record { ends = rw s; tokens = rw (s, e.tokens) };
    }

-- A plain byte goes on with a word, or begins one.
pub plain-inside : (b : ℕ) {r rest : List ℕ} {ts : List Token}
    → is_plain b ≡ true → Inside Mode.Word r rest ts → Inside Mode.Word (b ∷ r) (b ∷ rest) ts
unfolding stepped
plain-inside b {r} p e = record { ends = rw (plain-symbol b r p, e.ends); tokens = rw (plain-symbol b r p, e.tokens) }

pub plain-lexed : (b : ℕ) {r rest : List ℕ} {ts : List Token}
    → is_plain b ≡ true → utf8 r ≡ true → Inside Mode.Word r rest ts → Lexes (b ∷ r) (word (b ∷ rest) ∷ ts)
unfolding stepped
plain-lexed b {r} p u e =
    record { well_formed = ascii-utf8 b (plain-ascii b p) r ∙ u; tokens = rw (plain-symbol b r p, e.ends, e.tokens) }

-- A word of plain bytes before what ends it.
unfoldable pub all_plain : List ℕ → Bool
all_plain [] = true
all_plain (b ∷ r) = let more = all_plain r in is_plain b && more

word-inside : (u : List ℕ) {r : List ℕ} {ts : List Token} → all_plain u ≡ true → Inside Mode.Word r [] ts → Inside Mode.Word (u ++ r) u ts
unfolding all_plain
word-inside [] p e = e
word-inside (b ∷ u) p e =
    plain-inside b (and_left (is_plain b) (all_plain u) p) (word-inside u (and_right (is_plain b) (all_plain u) p) e)

word-utf8 : (u r : List ℕ) → all_plain u ≡ true → utf8 (u ++ r) ≡ utf8 r
unfolding all_plain
word-utf8 [] r p = refl
word-utf8 (b ∷ u) r p =
    ascii-utf8 b (plain-ascii b (and_left (is_plain b) (all_plain u) p)) (u ++ r) ∙ word-utf8 u r (and_right (is_plain b) (all_plain u) p)

pub word-lexed : (u : List ℕ) {r : List ℕ} {ts : List Token}
    → all_plain u ≡ true → is_empty u ≡ false → Parts r ts → Lexes (u ++ r) (word u ∷ ts)
unfolding all_plain is_empty
word-lexed [] p s e = absurd (true≢false s)
word-lexed (b ∷ u) {r} p s e =
    let q : all_plain u ≡ true = and_right (is_plain b) (all_plain u) p in
    plain-lexed b (and_left (is_plain b) (all_plain u) p) (word-utf8 u r q ∙ e.between.well_formed) (word-inside u q e.word)
