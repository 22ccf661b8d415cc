-- A sound name, written with `_` for each blank, is read as itself. Assumes nothing.
use Prim.Native.Nat.{ℕ}
use Rattle.lexer.proofs.Basics.{or_left, or_right, by-test, eqb-sym, all-four, and-false}
use Rattle.lexer.specs.Base.{pick, among}
use Rattle.lexer.specs.Classes.{symbol, symbol_of, class, wide_blank, next1, next2, general, general_blank, is_space, is_part, blank}
use Rattle.lexer.specs.Run.{run_tokens}
use Rattle.lexer.specs.Utf8.{utf8}
use Rattle.lexer.specs.Words.{spaced, label, is_word, is_quoted}
use Rattle.lexer.specs.declared.Class.{Class}
use Rattle.record.proofs.CommandLaws.{at}
use Rattle.record.proofs.FormTokens.{name, underscored}
use Rattle.block.specs.Sound.{no_underscore, no_return, not_blank, sound_name}
use borrow.Author.Tests.{eqb-true, not-true}
use lib.Dec.{eqb}
use mathlib.Core.Bool.{Bool, true, false, ◌&&◌, ◌||◌, not, and_assoc}
use mathlib.Core.List.{List, [], ◌∷◌}
use mathlib.Core.Option.{some}
use mathlib.Core.Path.{◌≡◌, refl, sym, ap₂}

-- A byte of a name as it is written.
abbrev written : ℕ → ℕ
written b = pick (eqb b 32) 95 b

spaced-underscored : (n : List ℕ) → among 95 n ≡ false → spaced (underscored n) ≡ n
unfolding spaced underscored among pick
spaced-underscored [] h = refl
spaced-underscored (b ∷ r) h =
    let more : spaced (underscored r) ≡ r = spaced-underscored r (or_right (eqb 95 b) (among 95 r) h) in
    by-test (eqb b 32)
    (λ t. rw (t, more, eqb-true b 32 t) refl)
    (λ f. rw (f, eqb-sym b 95, or_left (eqb 95 b) (among 95 r) h, more) refl)

-- A test that takes the blank for `_` cannot tell what is written.
module _ (p : ℕ → Bool) (like : p 95 ≡ p 32) where
  unseen : (b : ℕ) → p (written b) ≡ p b
  unfolding pick
  unseen b = by-test (eqb b 32) (λ t. rw (t, eqb-true b 32 t) like) (λ f. rw f refl)

next1-underscored : (k : ℕ) (r : List ℕ) → eqb 95 k ≡ eqb 32 k → next1 k (underscored r) ≡ next1 k r
unfolding next1 underscored
next1-underscored k [] e = refl
next1-underscored k (b ∷ r) e = unseen (λ x. eqb x k) e b

next2-underscored : (j k : ℕ) (r : List ℕ) → eqb 95 j ≡ eqb 32 j → eqb 95 k ≡ eqb 32 k → next2 j k (underscored r) ≡ next2 j k r
unfolding next2 underscored
next2-underscored j k [] d e = refl
next2-underscored j k (b ∷ []) d e = refl
next2-underscored j k (b ∷ c ∷ r) d e = ap₂ ◌&&◌ (unseen (λ x. eqb x j) d b) (unseen (λ x. eqb x k) e c)

general-underscored : (r : List ℕ) → general_blank (underscored r) ≡ general_blank r
unfolding general_blank general underscored
general-underscored [] = refl
general-underscored (b ∷ []) = refl
general-underscored (b ∷ c ∷ r) =
    ap₂ ◌||◌
    (ap₂ ◌&&◌ (unseen (λ x. eqb x 128) refl b) (unseen general refl c))
    (ap₂ ◌&&◌ (unseen (λ x. eqb x 129) refl b) (unseen (λ x. eqb x 159) refl c))

wide-underscored : (b : ℕ) (r : List ℕ) → wide_blank b (underscored r) ≡ wide_blank b r
unfolding wide_blank
wide-underscored b r =
    rw (next1-underscored 133 r refl, next1-underscored 160 r refl, next2-underscored 154 128 r refl refl, general-underscored r, next2-underscored 128 128 r refl refl) refl

symbol-underscored : (b : ℕ) (r : List ℕ) → symbol b (underscored r) ≡ symbol b r
unfolding symbol symbol_of
symbol-underscored b r = go (class b)
  where
    go : (c : Class) → symbol_of c b (underscored r) ≡ symbol_of c b r
    go Class.Newline = rw (next1-underscored 10 r refl) refl
    go Class.Blank = refl
    go Class.Quote = refl
    go Class.Comment = refl
    go Class.Punctuation = refl
    go Class.Other = refl
    go Class.Part = rw (wide-underscored b r) refl

no-blank : (r : List ℕ) → is_space (symbol 95 r) || is_part (symbol 95 r) ≡ false
unfolding run_tokens
no-blank r = refl

blank-underscored : (n : List ℕ) → blank (underscored n) ≡ blank n && not (among 32 n)
unfolding blank underscored among pick
blank-underscored [] = refl
blank-underscored (b ∷ r) =
    by-test (eqb b 32)
    (λ t. rw (eqb-sym 32 b, t, no-blank (underscored r)) (sym (and-false (blank (b ∷ r)))))
    (λ f. rw (eqb-sym 32 b, f, symbol-underscored b r, blank-underscored r) (sym (and_assoc (is_space (symbol b r) || is_part (symbol b r)) (blank r) (not (among 32 r)))))

neither : (a b : Bool) → not a || b ≡ true → a && not b ≡ false
neither true true h = refl
neither true false h = sym h
neither false b h = refl

-- The label of a name's token is the name.
pub name-label : (i : ℕ) (n : List ℕ) → sound_name n ≡ true → label (at i (name n)) ≡ some n
unfolding sound_name no_underscore no_return not_blank label is_word is_quoted pick
name-label i n h =
    let (u, no95, no13, some-sign) = all-four (utf8 n) (not (among 95 n)) (not (among 13 n)) (not (blank n) || among 32 n) h in
    rw (blank-underscored n, neither (blank n) (among 32 n) some-sign, spaced-underscored n (not-true (among 95 n) no95)) refl
