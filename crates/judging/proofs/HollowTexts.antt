-- Texts that are all White_Space with no U+0020 in them, byte by byte. Assumes nothing.
use Prim.Native.Nat.{ℕ, ◌<◌}
use Rattle.judging.specs.NameRest.{hollow}
use Rattle.lexer.proofs.Basics.{chosen, and-false, all_under, under_at, agree, agree-true}
use Rattle.lexer.specs.Base.{pick, among, bytes}
use Rattle.lexer.specs.Classes.{class, marks, symbol, symbol_of, wide_blank, next1, rank, is_newline, is_return, is_blank, is_part, is_space, blank}
use Rattle.lexer.specs.declared.Class.{Class}
use Rattle.lexer.specs.declared.Symbol.{Symbol}
use lib.Dec.{eqb, ltb, leb}
use mathlib.Core.Bool.{Bool, true, false, ◌&&◌, ◌||◌, not}
use mathlib.Core.List.{List, ◌∷◌}
use mathlib.Core.Path.{◌≡◌, refl}

-- Is a byte one of White_Space other than U+0020, or a later byte of a character, where `wide` says whether White_Space beyond ASCII begins with it?
abbrev pub hollow_byte : ℕ → Bool → Bool
hollow_byte b wide = (leb 9 b && leb b 13) || (leb 128 b && ltb b 192) || (leb 192 b && wide)

-- Is a byte of this class one of White_Space, or a later byte of a character?
blank_class : Class → ℕ → Bool → Bool
blank_class Class.Newline b wide = true
blank_class Class.Blank b wide = true
blank_class Class.Quote b wide = false
blank_class Class.Comment b wide = false
blank_class Class.Punctuation b wide = false
blank_class Class.Other b wide = false
blank_class Class.Part b wide = pick (ltb b 192) true wide

-- So its symbol says, whatever stands behind it.
class-blank : (k : Class) (b : ℕ) (n : List ℕ) → is_space (symbol_of k b n) || is_part (symbol_of k b n) ≡ blank_class k b (wide_blank b n)
unfolding blank_class symbol_of is_space is_newline is_return is_blank is_part rank pick
class-blank Class.Newline b n = chosen (λ s. is_space s || is_part s ≡ true) (eqb b 13 && next1 10 n) {x = Symbol.Return} {y = Symbol.Newline} (λ _. refl) (λ _. refl)
class-blank Class.Blank b n = refl
class-blank Class.Quote b n = chosen (λ s. is_space s || is_part s ≡ false) (eqb b 39) {x = Symbol.Single} {y = Symbol.Double} (λ _. refl) (λ _. refl)
class-blank Class.Comment b n = refl
class-blank Class.Punctuation b n = chosen (λ s. is_space s || is_part s ≡ false) (eqb b 93) {x = Symbol.Close} {y = Symbol.Punctuation} (λ _. refl) (λ _. refl)
class-blank Class.Other b n = refl
class-blank Class.Part b n = go (ltb b 192) (wide_blank b n)
  where
    go : (u v : Bool)
        → is_space (pick u Symbol.Part (pick v Symbol.Blank Symbol.Other)) || is_part (pick u Symbol.Part (pick v Symbol.Blank Symbol.Other)) ≡ pick u true v
    go true v = refl
    go false true = refl
    go false false = refl

-- Of each byte, by computing: it is one of White_Space other than U+0020 just if its class says so and it is not U+0020.
hollow-class : (b : ℕ) (wide : Bool) → b < 256 → blank_class (class b) b wide && not (eqb 32 b) ≡ hollow_byte b wide
unfolding blank_class class pick among bytes marks agree all_under
hollow-class b true h = agree-true _ _ (under_at (λ k. agree (blank_class (class k) k true && not (eqb 32 k)) (hollow_byte k true)) 256 b refl h)
hollow-class b false h = agree-true _ _ (under_at (λ k. agree (blank_class (class k) k false && not (eqb 32 k)) (hollow_byte k false)) 256 b refl h)

-- A text is all White_Space with no U+0020 just if its first byte is one of such a character, and what stands behind it is so.
pub hollow-first : (b : ℕ) (n : List ℕ) → b < 256 → hollow (b ∷ n) ≡ hollow_byte b (wide_blank b n) && hollow n
unfolding hollow blank among symbol
hollow-first b n h = rw (class-blank (class b) b n, ← hollow-class b (wide_blank b n) h) (go (blank_class (class b) b (wide_blank b n)) (blank n) (eqb 32 b) (among 32 n))
  where
    go : (k l u v : Bool) → (k && l) && not (u || v) ≡ (k && not u) && (l && not v)
    go true l true v = and-false l
    go true l false v = refl
    go false l u v = refl
