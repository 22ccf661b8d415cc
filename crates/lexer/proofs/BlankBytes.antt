-- Which bytes are those of a blank: a byte below 192 by its class, a later one by the two bytes behind it. Assumes nothing.
use Prim.Native.Nat.{ℕ, ◌+◌, ◌≤◌, ◌<◌}
use Rattle.lexer.proofs.Basics.{chosen, and-false}
use Rattle.lexer.proofs.SymbolLaws.{symbol_high}
use Rattle.lexer.specs.Base.{pick}
use Rattle.lexer.specs.Classes.{class, symbol, symbol_of, wide_blank, next1, next2, general_blank, general, rank, is_newline, is_return, is_blank, is_part, is_space}
use Rattle.lexer.specs.declared.Class.{Class}
use Rattle.lexer.specs.declared.Symbol.{Symbol}
use borrow.Author.Tests.{lt-ltb, le-ltb}
use lib.Dec.{eqb}
use lib.ListN.{get_or, drop}
use lib.Seq.{get_or-drop}
use mathlib.Core.Bool.{Bool, true, false, ◌&&◌, ◌||◌}
use mathlib.Core.List.{List, [], ◌∷◌}
use mathlib.Core.Logic.{◌⊎◌, inl, inr}
use mathlib.Core.Path.{◌≡◌, refl, sym, ap, ◌∙◌}
use native.Mathlib.Nat.{add-zero}
use native.Mathlib.Omega.{arith}

-- Is a byte before these bytes one of a is_blank
abbrev pub blank_part : ℕ → List ℕ → Bool
blank_part b r = is_space (symbol b r) || is_part (symbol b r)

-- Is a byte of this class one of a blank, if it is below 192?
blank-class : Class → Bool
blank-class Class.Newline = true
blank-class Class.Blank = true
blank-class Class.Quote = false
blank-class Class.Comment = false
blank-class Class.Punctuation = false
blank-class Class.Other = false
blank-class Class.Part = true

blank-low : (b : ℕ) (r : List ℕ) → b < 192 → (k : Class) → k ≡ class b → blank-class k ≡ blank_part b r
unfolding blank-class symbol symbol_of is_space is_newline is_return is_blank is_part rank pick
blank-low b r low k e = rw (← e) (go k)
  where
    P : Symbol → Type 0
    P s = true ≡ is_space s || is_part s

    N : Symbol → Type 0
    N s = false ≡ is_space s || is_part s

    go : (k : Class) → blank-class k ≡ is_space (symbol_of k b r) || is_part (symbol_of k b r)
    go Class.Newline = chosen P (eqb b 13 && next1 10 r) {x = Symbol.Return} {y = Symbol.Newline} (λ _. refl) (λ _. refl)
    go Class.Blank = refl
    go Class.Quote = chosen N (eqb b 39) {x = Symbol.Single} {y = Symbol.Double} (λ _. refl) (λ _. refl)
    go Class.Comment = refl
    go Class.Punctuation = chosen N (eqb b 93) {x = Symbol.Close} {y = Symbol.Punctuation} (λ _. refl) (λ _. refl)
    go Class.Other = refl
    go Class.Part = rw (lt-ltb b 192 low)

full-class : (k : Class) → (k ≡ Class.Newline → ⊥) → (k ≡ Class.Blank → ⊥) → (k ≡ Class.Part → ⊥) → false ≡ blank-class k
unfolding blank-class
full-class Class.Newline n b p = absurd (n refl)
full-class Class.Blank n b p = absurd (b refl)
full-class Class.Quote n b p = refl
full-class Class.Comment n b p = refl
full-class Class.Punctuation n b p = refl
full-class Class.Other n b p = refl
full-class Class.Part n b p = absurd (p refl)

module _ (b : ℕ) (r : List ℕ) (low : b < 192) (k : Class) (e : k ≡ class b) where
  pub low-blank : (k ≡ Class.Newline) ⊎ (k ≡ Class.Blank) ⊎ (k ≡ Class.Part) → true ≡ blank_part b r
  unfolding blank-class
  low-blank (inl o) = sym (ap blank-class o) ∙ blank-low b r low k e
  low-blank (inr (inl o)) = sym (ap blank-class o) ∙ blank-low b r low k e
  low-blank (inr (inr o)) = sym (ap blank-class o) ∙ blank-low b r low k e

  pub low-full : (k ≡ Class.Newline → ⊥) → (k ≡ Class.Blank → ⊥) → (k ≡ Class.Part → ⊥) → false ≡ blank_part b r
  low-full n o p = full-class k n o p ∙ blank-low b r low k e

-- Of the bytes behind it at most two matter, and 0 stands for one that is not there.
wide-two : (b : ℕ) (r : List ℕ) → wide_blank b (get_or r 0 0 ∷ get_or r 1 0 ∷ []) ≡ wide_blank b r
unfolding wide_blank next1 next2 general_blank general
wide-two b [] = refl
wide-two b (x ∷ []) = rw (and-false (eqb x 154), and-false (eqb x 128), and-false (eqb x 129))
wide-two b (x ∷ y ∷ r) = refl

pub wide_from : (b i : ℕ) (text : List ℕ) → wide_blank b (get_or text i 0 ∷ get_or text (i + 1) 0 ∷ []) ≡ wide_blank b (drop i text)
wide_from b i text =
    let first : get_or (drop i text) 0 0 ≡ get_or text i 0 = get_or-drop i text 0 0 ∙ rw (add-zero i) in
    rw (← first, ← get_or-drop i text 1 0) (wide-two b (drop i text))

pub blank-high : (b : ℕ) (r : List ℕ) → 192 ≤ b → wide_blank b (get_or r 0 0 ∷ get_or r 1 0 ∷ []) ≡ blank_part b r
unfolding pick is_space is_newline is_return is_blank is_part rank
blank-high b r high = wide-two b r ∙ rw (symbol_high b (omega arith) r, le-ltb b 192 high) (go (wide_blank b r))
  where
    go : (w : Bool) → w ≡ is_space (pick w Symbol.Blank Symbol.Other) || is_part (pick w Symbol.Blank Symbol.Other)
    go true = refl
    go false = refl
