-- The rest of a name behind one byte more, by what the bytes before it leave open. Assumes nothing.
use Prim.Native.Nat.{ℕ, zero, suc, ◌<◌}
use Rattle.block.specs.Sound.{sound_name, no_underscore, no_return, not_blank}
use Rattle.judging.proofs.HollowTexts.{hollow_byte, hollow-first}
use Rattle.judging.proofs.Utf8Bytes.{open-ascii, no-later}
use Rattle.judging.specs.NameRest.{hollow, name_rest}
use Rattle.judging.specs.declared.names.Naming.{Naming}
use Rattle.lexer.proofs.Basics.{by-test, and_assoc, and-false, or_left, or_right, eqb-sym}
use Rattle.lexer.proofs.TextUtf8.{range-free}
use Rattle.lexer.specs.Base.{among}
use Rattle.lexer.specs.Classes.{wide_blank, blank}
use Rattle.lexer.specs.Utf8.{utf8, utf8_from}
use borrow.Author.Tests.{ltb-false, lt-ltb}
use lib.Dec.{eqb, ltb, eqb-suc-zero}
use mathlib.Core.Bool.{Bool, true, false, ◌&&◌, ◌||◌, not, false≢true}
use mathlib.Core.List.{List, [], ◌∷◌}
use mathlib.Core.Path.{◌≡◌, refl, sym, ap, ◌∙◌}
use native.Mathlib.Omega.{arith}

-- Where nothing has been read, the rest is the name.
pub name-whole : (s : Naming) (n : List ℕ) → s.more ≡ 0 → s.low ≡ 128 → s.high ≡ 191 → s.blank ≡ true → name_rest s n ≡ sound_name n
unfolding name_rest sound_name not_blank hollow utf8
name-whole s n more low high all = rw (more, low, high, all) (ap (λ t. utf8 n && no_underscore n && no_return n && t) (go (blank n) (among 32 n)))
  where
    go : (u v : Bool) → not (u && not v) ≡ not u || v
    go true true = refl
    go true false = refl
    go false v = refl

-- Where the bytes end, the name ends if no character is open, and not all is White_Space with no U+0020.
pub name-over : (s : Naming) → name_rest s [] ≡ eqb s.more 0 && not s.blank
unfolding name_rest no_underscore no_return hollow blank among utf8_from
name-over s = go s.more s.blank
  where
    go : (more : ℕ) (all : Bool) → utf8_from more s.low s.high [] && true && true && not (all && true) ≡ eqb more 0 && not all
    go zero true = refl
    go zero false = refl
    go (suc m) all = rw (eqb-suc-zero m)

module _ (s : Naming) (b : ℕ) (n : List ℕ) where
  -- Are these bytes well-formed behind what is open of a character?
  abbrev opens : List ℕ → Bool
  opens = utf8_from s.more s.low s.high

  -- Behind a byte that no name holds, no bytes end a name.
  pub name-forbidden : eqb b 95 || eqb b 13 ≡ true → name_rest s (b ∷ n) ≡ false
  unfolding name_rest no_underscore no_return among
  name-forbidden h = rw (eqb-sym 95 b, eqb-sym 13 b) (go (opens (b ∷ n)) (eqb b 95) (eqb b 13) (among 95 n) (among 13 n) (s.blank && hollow (b ∷ n)) h)
    where
      go : (a p q u v w : Bool) → p || q ≡ true → a && not (p || u) && not (q || v) && not w ≡ false
      go a true q u v w h = rw and-false
      go a false true u v w h = rw and-false
      go a false false u v w h = absurd (false≢true h)

  -- Nor do they behind a byte that the character that is open does not go on with.
  pub name-broken : opens (b ∷ n) ≡ false → name_rest s (b ∷ n) ≡ false
  unfolding name_rest
  name-broken h = rw h

  -- Behind any other byte, bytes end a name if they end it together with that byte.
  pub name-byte : (t : Naming) → b < 256 → eqb b 95 || eqb b 13 ≡ false → opens (b ∷ n) ≡ utf8_from t.more t.low t.high n
      → t.blank ≡ s.blank && hollow_byte b (wide_blank b n) → name_rest s (b ∷ n) ≡ name_rest t n
  unfolding name_rest no_underscore no_return among
  name-byte t small plain on all =
      rw (on, eqb-sym 95 b, eqb-sym 13 b, or_left (eqb b 95) (eqb b 13) plain, or_right (eqb b 95) (eqb b 13) plain, hollow-first b n small, all)
      (ap (λ w. utf8_from t.more t.low t.high n && not (among 95 n) && not (among 13 n) && not w) (and_assoc s.blank (hollow_byte b (wide_blank b n)) (hollow n)))

-- Where no character is open, and a byte other than White_Space or a U+0020 was, an ASCII byte leaves open what was.
pub name-settled : (s : Naming) (b : ℕ) (n : List ℕ) → s.more ≡ 0 → s.blank ≡ false → b < 128 → eqb b 95 || eqb b 13 ≡ false
    → name_rest s (b ∷ n) ≡ name_rest s n
name-settled s b n none seen small plain =
    name-byte s b n s (omega arith) plain (open-ascii _ _ _ b n none small ∙ sym (rw none (range-free s.low s.high n))) (seen ∙ sym (rw seen))

-- Behind a byte that must be at least 1 and at most 0, no bytes end a name.
pub name-none : (s : Naming) → s.more ≡ 1 → s.low ≡ 1 → s.high ≡ 0 → (n : List ℕ) → name_rest s n ≡ false
unfolding name_rest utf8_from
name-none s more low high n = rw (more, low, high, go n)
  where
    go : (n : List ℕ) → utf8_from 1 1 0 n ≡ false
    go [] = refl
    go (b ∷ r) = by-test (ltb b 1) (λ t. no-later 1 1 0 b r (λ e. omega arith) (rw t)) (λ f. no-later 1 1 0 b r (λ e. omega arith) (rw (f, lt-ltb 0 b (omega (arith, ltb-false b 1 f)))))
