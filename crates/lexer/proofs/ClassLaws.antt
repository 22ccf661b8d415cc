-- Laws of the bytes that come next in a text, and of a byte's class and symbol. Assumes nothing.
use Prim.Native.Nat.{ℕ, ◌+◌, ◌≤◌, ◌<◌}
use Rattle.lexer.proofs.Basics.{all_under, under_at, implied, by-test, not-both, and-false}
use Rattle.lexer.proofs.ListLaws.{drop-next}
use Rattle.lexer.specs.Base.{pick, among, bytes}
use Rattle.lexer.specs.ByteBlocks.{is_plain}
use Rattle.lexer.specs.Classes.{class, symbol, symbol_of, next1, marks}
use Rattle.lexer.specs.Scanning.{first_symbol, symbol_at}
use Rattle.lexer.specs.declared.Class.{Class}
use Rattle.lexer.specs.declared.Symbol.{Symbol}
use borrow.Author.Tests.{eqb-true, ne_eqb, lt-leb, ltb-true, ltb-false}
use lib.Dec.{eqb, ltb}
use lib.ListN.{length, get_or, drop, drop_of_length-le, get_or-eq_default}
use mathlib.Core.Bool.{Bool, true, false, ◌||◌, not, false≢true}
use mathlib.Core.List.{List}
use mathlib.Core.Path.{◌≡◌, refl, sym, ◌∙◌}
use native.Mathlib.Omega.{arith}

-- The byte that comes next
pub next1-here : (text : List ℕ) (i b : ℕ) → i < length text → next1 b (drop i text) ≡ eqb (get_or text i 0) b
unfolding next1
next1-here text i b h = rw (drop-next text i)

pub next1-past : (text : List ℕ) (i b : ℕ) → length text ≤ i → next1 b (drop i text) ≡ false
unfolding next1
next1-past text i b h = rw (drop_of_length-le text h)

-- past the end of the text a byte that is read as 0 is no other
pub next1-told : (text : List ℕ) (i b : ℕ) → eqb 0 b ≡ false → next1 b (drop i text) ≡ eqb (get_or text i 0) b
next1-told text i b z = by-test (ltb i (length text)) (λ t. next1-here text i b (ltb-true i (length text) t)) (λ f. past (ltb-false i (length text) f))
  where
    past : length text ≤ i → next1 b (drop i text) ≡ eqb (get_or text i 0) b
    past h = next1-past text i b h ∙ sym (rw (get_or-eq_default text 0 h) z)

pub next1-found : (text : List ℕ) (i b : ℕ) → next1 b (drop i text) ≡ true → (i < length text) × (get_or text i 0 ≡ b)
next1-found text i b t = by-test (ltb i (length text)) (λ h. here (ltb-true i (length text) h)) (λ f. not-both (next1-past text i b (ltb-false i (length text) f)) t)
  where
    here : i < length text → (i < length text) × (get_or text i 0 ≡ b)
    here h = (h, eqb-true (get_or text i 0) b (sym (next1-here text i b h) ∙ t))

-- Is the class is_other
other-class : Class → Bool
other-class Class.Newline = false
other-class Class.Blank = false
other-class Class.Quote = false
other-class Class.Comment = false
other-class Class.Punctuation = false
other-class Class.Other = true
other-class Class.Part = false

other-known : (k : Class) → other-class k ≡ true → k ≡ Class.Other
unfolding other-class
other-known Class.Newline h = absurd (false≢true h)
other-known Class.Blank h = absurd (false≢true h)
other-known Class.Quote h = absurd (false≢true h)
other-known Class.Comment h = absurd (false≢true h)
other-known Class.Punctuation h = absurd (false≢true h)
other-known Class.Other h = refl
other-known Class.Part h = absurd (false≢true h)

-- The class of a plain byte is other, by a computed test of all 256.
plain_other : ℕ → Bool
plain_other b = not (is_plain b) || other-class (class b)

plain-all : all_under plain_other 256 ≡ true
unfolding all_under plain_other other-class class pick among bytes marks is_plain
plain-all = refl

large-not-plain : (b : ℕ) → 128 ≤ b → is_plain b ≡ false
unfolding is_plain
large-not-plain b h =
    let digit = lt-leb b 57 (omega arith) in
    let small = lt-leb b 122 (omega arith) in
    let capital = lt-leb b 90 (omega arith) in
    let question = ne_eqb b 63 (λ e. omega arith) in
    let underscore = ne_eqb b 95 (λ e. omega arith) in
    rw (digit, small, capital, question, underscore) (simp and-false)

-- A plain byte is below 128.
pub plain-small : (b : ℕ) → is_plain b ≡ true → b < 128
plain-small b t = by-test (ltb b 128) (λ h. ltb-true b 128 h) (λ f. not-both (large-not-plain b (ltb-false b 128 f)) t)

pub plain-is-other : (b : ℕ) → is_plain b ≡ true → class b ≡ Class.Other
unfolding plain_other
plain-is-other b t = by-test (ltb b 256) (λ h. other-known (class b) (implied (is_plain b) (other-class (class b)) (under_at plain_other 256 b plain-all (ltb-true b 256 h)) t)) (λ f. let far = ltb-false b 256 f in not-both (large-not-plain b (omega arith)) t)

-- The symbol of a byte of a text that has this class.
pub symbol-at-class : (text : List ℕ) (i : ℕ) (k : Class) → i < length text → class (get_or text i 0) ≡ k
    → symbol_of k (get_or text i 0) (drop (i + 1) text) ≡ symbol_at text i
unfolding symbol_at first_symbol symbol
symbol-at-class text i k h e = rw (drop-next text i, e)

-- The same of a byte whose symbol does not depend on what comes next.
pub symbol-at-byte : (text : List ℕ) (i b : ℕ) (s : Symbol) → i < length text → get_or text i 0 ≡ b → ((r : List ℕ) → symbol b r ≡ s) → s ≡ symbol_at text i
unfolding symbol_at first_symbol
symbol-at-byte text i b s h e same = sym (rw (drop-next text i h, e) (same (drop (i + 1) text)))

-- That of a plain byte.
pub plain-symbol : (text : List ℕ) (i : ℕ) → i < length text → is_plain (get_or text i 0) ≡ true → Symbol.Other ≡ symbol_at text i
unfolding symbol_of
plain-symbol text i h t = symbol-at-class text i Class.Other h (plain-is-other (get_or text i 0) t)
