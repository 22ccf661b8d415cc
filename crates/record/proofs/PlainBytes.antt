-- The bytes that words are made of: what the lexer takes digits and valid symbols for, whatever stands behind them. Assumes nothing.
use Prim.Native.Nat.{ℕ, ◌≤◌}
use Rattle.block.specs.Format.{valid_symbol, invalid}
use Rattle.block.specs.Run.{run_text}
use Rattle.lexer.proofs.Basics.{and_left, and_right, chosen, all_under, under_at, implied}
use Rattle.lexer.specs.Base.{among}
use Rattle.lexer.specs.Classes.{class, marks, symbol, symbol_of}
use Rattle.lexer.specs.declared.Class.{Class}
use Rattle.lexer.specs.declared.Symbol.{Symbol}
use borrow.Author.Tests.{leb-true, lt-ltb}
use lib.Dec.{eqb, leb, ltb}
use mathlib.Core.Bool.{Bool, true, false, ◌&&◌, ◌||◌, not, false≢true}
use mathlib.Core.List.{List}
use mathlib.Core.Path.{◌≡◌, refl}
use native.Mathlib.Omega.{arith}

-- A byte that a word goes on with.
unfoldable pub plain_class : Class → Bool
plain_class Class.Newline = false
plain_class Class.Blank = false
plain_class Class.Quote = false
plain_class Class.Comment = false
plain_class Class.Punctuation = false
plain_class Class.Other = true
plain_class Class.Part = false

unfoldable pub is_plain : ℕ → Bool
is_plain b = plain_class (class b)

pub plain-symbol : (b : ℕ) (r : List ℕ) → is_plain b ≡ true → symbol b r ≡ Symbol.Other
unfolding is_plain plain_class symbol symbol_of
plain-symbol b r h = go (class b) h
  where
    go : (c : Class) → plain_class c ≡ true → symbol_of c b r ≡ Symbol.Other
    go Class.Newline h = absurd (false≢true h)
    go Class.Blank h = absurd (false≢true h)
    go Class.Quote h = absurd (false≢true h)
    go Class.Comment h = absurd (false≢true h)
    go Class.Punctuation h = absurd (false≢true h)
    go Class.Other h = refl
    go Class.Part h = absurd (false≢true h)

pub plain-ascii : (b : ℕ) → is_plain b ≡ true → ltb b 128 ≡ true
unfolding is_plain plain_class class
plain-ascii b =
    let P : Class → Type 0 = λ c. plain_class c ≡ true → ltb b 128 ≡ true in
    chosen P (eqb b 10 || eqb b 13) (λ _ h. absurd (false≢true h)) λ _.
    chosen P (eqb b 9 || eqb b 11 || eqb b 12 || eqb b 32) (λ _ h. absurd (false≢true h)) λ _.
    chosen P (eqb b 39 || eqb b 34) (λ _ h. absurd (false≢true h)) λ _.
    chosen P (eqb b 91) (λ _ h. absurd (false≢true h)) λ _.
    chosen P (among b marks) (λ _ h. absurd (false≢true h)) λ _.
    chosen P (ltb b 128) (λ t _. t) λ _ h. absurd (false≢true h)

-- Digits
digit_test : ℕ → Bool
digit_test b = not (leb 48 b) || is_plain b

digits-tested : all_under digit_test 58 ≡ true
unfolding all_under digit_test is_plain plain_class run_text
digits-tested = refl

pub digit-plain : (b : ℕ) → leb 48 b && leb b 57 ≡ true → is_plain b ≡ true
unfolding digit_test
digit-plain b h =
    let l : leb 48 b ≡ true = and_left (leb 48 b) (leb b 57) h in
    let u : b ≤ 57 = leb-true b 57 (and_right (leb 48 b) (leb b 57) h) in
    implied (leb 48 b) (is_plain b) (under_at digit_test 58 b digits-tested (omega arith)) l

-- Valid symbols: all are plain but `+`, which is a punctuation mark.
symbol_test : ℕ → Bool
symbol_test b = not (valid_symbol b) || (eqb b 43 || is_plain b)

symbols-tested : all_under symbol_test 127 ≡ true
unfolding all_under symbol_test is_plain plain_class run_text
symbols-tested = refl

valid-below : (b : ℕ) → valid_symbol b ≡ true → b ≤ 126
unfolding valid_symbol
valid-below b h =
    leb-true b 126 (and_right (leb 33 b) (leb b 126) (and_left (leb 33 b && leb b 126) (not (among b invalid)) h))

pub valid-ascii : (b : ℕ) → valid_symbol b ≡ true → ltb b 128 ≡ true
valid-ascii b h = let u : b ≤ 126 = valid-below b h in lt-ltb b 128 (omega arith)

pub valid-plain : (b : ℕ) → valid_symbol b ≡ true → eqb b 43 ≡ false → is_plain b ≡ true
unfolding symbol_test
valid-plain b h e =
    let u : b ≤ 126 = valid-below b h in
    let tested : symbol_test b ≡ true = under_at symbol_test 127 b symbols-tested (omega arith) in
    let t : eqb b 43 || is_plain b ≡ true = implied (valid_symbol b) (eqb b 43 || is_plain b) tested h in
    rw e at t
