-- The text of a token holds no CR. Assumes nothing.
use Prim.Native.Nat.{ℕ, zero, suc}
use Rattle.lexer.proofs.Basics.{by-test, or-both}
use Rattle.lexer.proofs.SymbolLaws.{symbol-return, each-symbol}
use Rattle.lexer.specs.Base.{pick, among}
use Rattle.lexer.specs.Classes.{symbol, next1, rank, is_newline, is_return, is_single, is_double, is_open, is_close, is_other, is_part}
use Rattle.lexer.specs.Tokens.{tail, text_step, quoted_byte, next, after_between, after_word, after_comment, up}
use Rattle.lexer.specs.declared.Mode.{Mode}
use Rattle.lexer.specs.declared.Symbol.{Symbol}
use borrow.Author.Tests.{eqb-true}
use lib.Dec.{eqb}
use mathlib.Core.Bool.{Bool, true, false}
use mathlib.Core.List.{List, [], ◌∷◌}
use mathlib.Core.Path.{◌≡◌, refl}

-- No CR is in the text of a token: in quoted text it is LF, and elsewhere it ends a word.
pub record Returnless (r : List ℕ) : Type 0 where
  pub word : among 13 (tail Mode.Word r) ≡ false
  pub quoted : among 13 (tail Mode.Quoted r) ≡ false
  pub string : among 13 (tail Mode.String r) ≡ false
  pub closing : among 13 (tail Mode.Closing r) ≡ false
  pub comment : (d : ℕ) → among 13 (tail (Mode.WordComment d) r) ≡ false

-- What holds of a byte's symbol if it holds of CR's two and, for a byte that is no CR, of every symbol.
pub unless-return : (P : ℕ → Symbol → Type 0) (b : ℕ) (r : List ℕ) → P 13 Symbol.Return → P 13 Symbol.Newline → (eqb 13 b ≡ false → (s : Symbol) → P b s) → P b (symbol b r)
unfolding pick
unless-return P b r return newline other = by-test (eqb 13 b) cr (λ e. other e (symbol b r))
  where
    go : (t : Bool) → P 13 (pick t Symbol.Return Symbol.Newline)
    go true = return
    go false = newline

    cr : eqb 13 b ≡ true → P b (symbol b r)
    cr e = rw (← eqb-true 13 b e) (rw (symbol-return r) (go (next1 10 r)))

module _ (b : ℕ) (r : List ℕ) (k : Returnless r) where
  -- no CR is in what this byte adds to the text, if its symbol is this, and in what the rest adds
  abbrev Free : Mode → ℕ → Symbol → Type 0
  Free m c s = among 13 (text_step m s c (tail (next m s) r)) ≡ false

  returnless-step : Returnless (b ∷ r)
  unfolding tail next after_word after_between after_comment up text_step quoted_byte pick rank is_newline is_return is_single is_double is_open is_close is_other is_part among
  returnless-step =
      record {
        word = unless-return (Free Mode.Word) b r refl refl word;
        quoted = unless-return (Free Mode.Quoted) b r k.quoted k.quoted quoted;
        string = unless-return (Free Mode.String) b r k.string k.string string;
        closing = unless-return (Free Mode.Closing) b r refl refl closing;
        comment = λ d. comment d (symbol b r);
      }
    where
      word : eqb 13 b ≡ false → (s : Symbol) → Free Mode.Word b s
      word e = let this = or-both e k.word in each-symbol (Free Mode.Word b) refl refl refl refl refl (k.comment 0) refl refl this this

      quoted : eqb 13 b ≡ false → (s : Symbol) → Free Mode.Quoted b s
      quoted e = let this = or-both e k.quoted in each-symbol (Free Mode.Quoted b) k.quoted k.quoted this k.closing this this this this this this

      string : eqb 13 b ≡ false → (s : Symbol) → Free Mode.String b s
      string e = let this = or-both e k.string in each-symbol (Free Mode.String b) k.string k.string this this refl this this this this this

      closing : eqb 13 b ≡ false → (s : Symbol) → Free Mode.Closing b s
      closing e = each-symbol (Free Mode.Closing b) refl refl refl (or-both e k.quoted) refl refl refl refl refl refl

      closes : (d : ℕ) → among 13 (tail (up Mode.Word Mode.WordComment d) r) ≡ false
      closes zero = k.word
      closes (suc d) = k.comment d

      comment : (d : ℕ) (s : Symbol) → Free (Mode.WordComment d) b s
      comment d = let same = k.comment d in each-symbol (Free (Mode.WordComment d) b) same same same same same (k.comment (suc d)) (closes d) same same same

pub returnless : (r : List ℕ) → Returnless r
unfolding tail among
returnless [] = record { word = refl; quoted = refl; string = refl; closing = refl; comment = λ d. refl }
returnless (b ∷ r) = returnless-step b r (returnless r)
