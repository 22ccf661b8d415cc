-- What it says of a token's kind that it is one of them, or is not. Assumes nothing.
use Prim.Native.Nat.{ℕ}
use Rattle.lexer.specs.Words.{is_word, is_quoted, is_line_end, is_mark}
use Rattle.lexer.specs.declared.Kind.{Kind}
use borrow.Author.Tests.{ne_eqb}
use mathlib.Core.Bool.{true, false, ◌||◌}
use mathlib.Core.Logic.{◌⊎◌, inl, inr}
use mathlib.Core.Path.{◌≡◌, refl, ap}

-- another kind than a word
pub other-kind : (k : Kind) → (k ≡ Kind.Word → ⊥) → is_word k ≡ false
unfolding is_word
other-kind Kind.Word n = absurd (n refl)
other-kind Kind.Quoted n = refl
other-kind Kind.String n = refl
other-kind (Kind.Punctuation b) n = refl
other-kind Kind.Newline n = refl
other-kind Kind.OpenQuote n = refl
other-kind Kind.OpenComment n = refl

-- another kind than this punctuation mark
pub kind-unmarked : (c : ℕ) (k : Kind) → (k ≡ Kind.Punctuation c → ⊥) → is_mark c k ≡ false
unfolding is_mark
kind-unmarked c Kind.Word n = refl
kind-unmarked c Kind.Quoted n = refl
kind-unmarked c Kind.String n = refl
kind-unmarked c (Kind.Punctuation b) n = ne_eqb b c (λ e. n (ap Kind.Punctuation e))
kind-unmarked c Kind.Newline n = refl
kind-unmarked c Kind.OpenQuote n = refl
kind-unmarked c Kind.OpenComment n = refl

-- another kind than a newline
pub kind-unended : (k : Kind) → (k ≡ Kind.Newline → ⊥) → is_line_end k ≡ false
unfolding is_line_end
kind-unended Kind.Word n = refl
kind-unended Kind.Quoted n = refl
kind-unended Kind.String n = refl
kind-unended (Kind.Punctuation b) n = refl
kind-unended Kind.Newline n = absurd (n refl)
kind-unended Kind.OpenQuote n = refl
kind-unended Kind.OpenComment n = refl

-- a kind of a name, and another
pub kind-named : (k : Kind) → (k ≡ Kind.Word) ⊎ (k ≡ Kind.Quoted) → is_word k || is_quoted k ≡ true
unfolding is_word is_quoted
kind-named k (inl e) = rw e
kind-named k (inr e) = rw e

pub kind-nameless : (k : Kind) → (k ≡ Kind.Word → ⊥) → (k ≡ Kind.Quoted → ⊥) → is_word k || is_quoted k ≡ false
unfolding is_word is_quoted
kind-nameless Kind.Word w q = absurd (w refl)
kind-nameless Kind.Quoted w q = absurd (q refl)
kind-nameless Kind.String w q = refl
kind-nameless (Kind.Punctuation b) w q = refl
kind-nameless Kind.Newline w q = refl
kind-nameless Kind.OpenQuote w q = refl
kind-nameless Kind.OpenComment w q = refl
