-- Lexing a name in the form's quotes, whatever bytes but CR it has. Assumes nothing.
use Prim.Native.Nat.{ℕ}
use Rattle.lexer.proofs.Basics.{or_left, or_right, or-false, eqb-sym, by-test, chosen}
use Rattle.lexer.specs.Base.{pick, among}
use Rattle.lexer.specs.Classes.{class, symbol, symbol_of, wide_blank, marks, is_single, is_return, is_newline}
use Rattle.lexer.specs.Run.{run_tokens}
use Rattle.lexer.specs.Tokens.{Token, quoted_byte}
use Rattle.lexer.specs.declared.Class.{Class}
use Rattle.lexer.specs.declared.Mode.{Mode}
use Rattle.lexer.specs.declared.Symbol.{Symbol}
use Rattle.record.proofs.FormTokens.{underscored, name}
use Rattle.record.proofs.QuotedUtf8.{quoted-utf8}
use Rattle.record.proofs.SoundNames.{sound-name}
use Rattle.record.proofs.WordsLexed.{Lexes, Inside, Parts, stepped}
use Rattle.record.specs.Form.{quote, quoted_from, quoted}
use Rattle.block.specs.Sound.{sound_name}
use borrow.Author.Tests.{eqb-true}
use lib.Dec.{eqb, ltb}
use mathlib.Core.Bool.{Bool, true, false, ◌||◌}
use mathlib.Core.List.{List, [], ◌∷◌, ◌++◌}
use mathlib.Core.Path.{◌≡◌, refl, sym, ◌∙◌}

-- In quotes the byte stands for itself.
record Itself (b : ℕ) (s : Symbol) : Type 0 where
  single : is_single s ≡ false
  return : is_return s ≡ false
  byte : quoted_byte s b ≡ b

neither-itself : (b : ℕ) (s : Symbol) → is_single s ≡ false → is_return s ≡ false → is_newline s ≡ false → Itself b s
unfolding quoted_byte pick
neither-itself b s p q n = record { single = p; return = q; byte = rw n }

module _ (b : ℕ) (r : List ℕ) (cr : eqb b 13 ≡ false) (mark : eqb b 39 ≡ false) where
  newline-itself : eqb b 10 || eqb b 13 ≡ true → Itself b (symbol_of Class.Newline b r)
  unfolding stepped symbol_of
  newline-itself t =
      let n : eqb b 10 || false ≡ true = rw cr at t in
      rw cr (record { single = refl; return = refl; byte = sym (eqb-true b 10 (rw or-false at n)) })

  byte-itself : Itself b (symbol b r)
  unfolding stepped symbol class symbol_of
  byte-itself =
      let P : Class → Type 0 = λ c. Itself b (symbol_of c b r) in
      let Q : Symbol → Type 0 = Itself b in
      let easy : (s : Symbol) → is_single s ≡ false → is_return s ≡ false → is_newline s ≡ false → Itself b s = neither-itself b in
      chosen P (eqb b 10 || eqb b 13) newline-itself λ _.
      chosen P (eqb b 9 || eqb b 11 || eqb b 12 || eqb b 32) (λ _. easy Symbol.Blank refl refl refl) λ _.
      chosen P (eqb b 39 || eqb b 34) (λ _. rw mark (easy Symbol.Double refl refl refl)) λ _.
      chosen P (eqb b 91) (λ _. easy Symbol.Open refl refl refl) λ _.
      chosen P (among b marks)
      (λ _. chosen Q (eqb b 93) (λ _. easy Symbol.Close refl refl refl) λ _. easy Symbol.Punctuation refl refl refl) λ _.
      chosen P (ltb b 128) (λ _. easy Symbol.Other refl refl refl) λ _.
      chosen Q (ltb b 192) (λ _. easy Symbol.Part refl refl refl) λ _.
      chosen Q (wide_blank b r) (λ _. easy Symbol.Blank refl refl refl) λ _. easy Symbol.Other refl refl refl

module _ {r rest : List ℕ} {ts : List Token} (q : Inside Mode.Quoted r rest ts) where
  itself-inside : (b : ℕ) → Itself b (symbol b r) → Inside Mode.Quoted (b ∷ r) (b ∷ rest) ts
  unfolding stepped
  itself-inside b i =
      record { ends = rw (i.single, i.return, i.byte, q.ends); tokens = rw (i.single, q.tokens) }

  quote-inside : Inside Mode.Quoted (39 ∷ 39 ∷ r) (39 ∷ rest) ts
  unfolding run_tokens
  quote-inside = record { ends = rw q.ends; tokens = q.tokens }

  byte_inside : (b : ℕ) → eqb b 13 ≡ false → Inside Mode.Quoted (quote b ++ r) (pick (eqb b 32) 95 b ∷ rest) ts
  unfolding quote pick
  byte_inside b cr =
      by-test (eqb b 39) (λ t. rw (t, eqb-true b 39 t) quote-inside) (λ f. rw f (go (eqb b 32) f))
    where
      go : (t : Bool) → eqb b 39 ≡ false → Inside Mode.Quoted (pick t (95 ∷ []) (b ∷ []) ++ r) (pick t 95 b ∷ rest) ts
      go true f = itself-inside 95 (byte-itself 95 r refl refl)
      go false f = itself-inside b (byte-itself b r cr f)

end-inside : {r : List ℕ} {ts : List Token} → Inside Mode.Closing r [] ts → Inside Mode.Quoted (39 ∷ r) [] ts
unfolding run_tokens
end-inside e = record { ends = e.ends; tokens = e.tokens }

name-inside : (n : List ℕ) {r : List ℕ} {ts : List Token}
    → among 13 n ≡ false → Inside Mode.Closing r [] ts → Inside Mode.Quoted (quoted_from n r) (underscored n) ts
unfolding quoted_from underscored among
name-inside [] cr e = end-inside e
name-inside (b ∷ n) cr e =
    byte_inside (name-inside n (or_right (eqb 13 b) (among 13 n) cr) e) b (eqb-sym b 13 ∙ or_left (eqb 13 b) (among 13 n) cr)

pub quoted-lexed : (n : List ℕ) {r : List ℕ} {ts : List Token} → sound_name n ≡ true → Parts r ts → Lexes (quoted n r) (name n ∷ ts)
unfolding quoted run_tokens
quoted-lexed n {r} h e =
    let q = name-inside n (sound-name n h).returnless e.quote in
    record { well_formed = quoted-utf8 n h r ∙ e.between.well_formed; tokens = rw (q.ends, q.tokens) }
