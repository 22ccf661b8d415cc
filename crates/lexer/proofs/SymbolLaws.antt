-- Laws of a byte's symbol. Assumes nothing.
use Prim.Native.Nat.{ℕ, ◌≤◌, ◌<◌}
use Rattle.lexer.proofs.Basics.{and_left, and_right, or-both}
use Rattle.lexer.specs.Base.{pick, among, bytes}
use Rattle.lexer.specs.Classes.{class, marks, symbol, symbol_of, wide_blank, next1}
use Rattle.lexer.specs.declared.Class.{Class}
use Rattle.lexer.specs.declared.Symbol.{Symbol}
use borrow.Author.Tests.{ltb-true, le-ltb, lt-ltb, ne_eqb}
use lib.Dec.{eqb, ltb, lit<}
use mathlib.Core.Bool.{Bool, true, false, ◌&&◌}
use mathlib.Core.List.{List, [], ◌∷◌}
use mathlib.Core.Path.{◌≡◌, refl, ◌∙◌}
use native.Mathlib.Omega.{arith}

-- A byte that is below all of a list's is not among them; and likewise one above.
unfoldable pub all-below : ℕ → List ℕ → Bool
all-below n [] = true
all-below n (c ∷ r) = ltb c n && all-below n r

among-above : (n b : ℕ) (l : List ℕ) → all-below n l ≡ true → n ≤ b → among b l ≡ false
unfolding all-below among
among-above n b [] h le = refl
among-above n b (c ∷ r) h le =
    let lt : c < n = ltb-true c n (and_left (ltb c n) (all-below n r) h) in
    or-both (ne_eqb b c (λ e. omega arith)) (among-above n b r (and_right (ltb c n) (all-below n r) h) le)

module _ (b : ℕ) (high : 128 ≤ b) where
  far : (k : ℕ) → k < 128 → eqb b k ≡ false
  far k lt = ne_eqb b k (λ e. omega arith)

  -- A byte from 128 on is part of a longer character.
  pub class-high : class b ≡ Class.Part
  unfolding class pick marks bytes all-below
  class-high =
      rw (
        far 10 (lit< tt),
        far 13 (lit< tt),
        far 9 (lit< tt),
        far 11 (lit< tt),
        far 12 (lit< tt),
        far 32 (lit< tt),
        far 39 (lit< tt),
        far 34 (lit< tt),
        far 91 (lit< tt),
        among-above 128 b marks refl high,
        le-ltb b 128 high,
      )

  pub symbol_high : (r : List ℕ) → symbol b r ≡ pick (ltb b 192) Symbol.Part (pick (wide_blank b r) Symbol.Blank Symbol.Other)
  unfolding symbol symbol_of
  symbol_high r = rw class-high

-- The later bytes of a character.
pub symbol-part : (b : ℕ) (r : List ℕ) → 128 ≤ b → b < 192 → symbol b r ≡ Symbol.Part
unfolding pick
symbol-part b r high low = symbol_high b high r ∙ rw (lt-ltb b 192 low)

-- From 128 on a byte's symbol is one of three: what holds of these holds of it.
pub symbol-high-cases : (P : Symbol → Type 0) (b : ℕ) (r : List ℕ) → 128 ≤ b → P Symbol.Part → P Symbol.Blank → P Symbol.Other → P (symbol b r)
unfolding pick
symbol-high-cases P b r high part blank other = rw (symbol_high b high r) (go (ltb b 192) (wide_blank b r))
  where
    go : (p w : Bool) → P (pick p Symbol.Part (pick w Symbol.Blank Symbol.Other))
    go true w = part
    go false true = blank
    go false false = other

-- What holds of each symbol, in the order of the list of all, holds of every one.
pub each-symbol : (P : Symbol → Type 0) → P Symbol.Newline → P Symbol.Return → P Symbol.Blank → P Symbol.Single → P Symbol.Double → P Symbol.Open
    → P Symbol.Close → P Symbol.Punctuation → P Symbol.Other → P Symbol.Part → (s : Symbol) → P s
each-symbol P newline return blank single double opening closing mark other part Symbol.Newline = newline
each-symbol P newline return blank single double opening closing mark other part Symbol.Return = return
each-symbol P newline return blank single double opening closing mark other part Symbol.Blank = blank
each-symbol P newline return blank single double opening closing mark other part Symbol.Single = single
each-symbol P newline return blank single double opening closing mark other part Symbol.Double = double
each-symbol P newline return blank single double opening closing mark other part Symbol.Open = opening
each-symbol P newline return blank single double opening closing mark other part Symbol.Close = closing
each-symbol P newline return blank single double opening closing mark other part Symbol.Punctuation = mark
each-symbol P newline return blank single double opening closing mark other part Symbol.Other = other
each-symbol P newline return blank single double opening closing mark other part Symbol.Part = part

-- CR is a newline, or the first half of one.
pub symbol-return : (r : List ℕ) → symbol 13 r ≡ pick (next1 10 r) Symbol.Return Symbol.Newline
unfolding symbol symbol_of class pick
symbol-return r = refl
