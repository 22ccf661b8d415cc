-- When a token is a name; and what a name is, once `_` is read as a blank: UTF-8 without `_` and CR, and not all White_Space unless it holds a
-- U+0020. Assumes nothing.
use Prim.Native.Nat.{ℕ, zero, suc, ◌≤◌}
use Rattle.lexer.proofs.Basics.{by-test, and_left, and_right, or_left, or_right, or-both, or-true, or-first, pick_first, pick_second, picked, picked_value}
use Rattle.lexer.proofs.TextUtf8.{behind}
use Rattle.lexer.proofs.TokensClean.{clean-text}
use Rattle.lexer.specs.Base.{pick, given, among}
use Rattle.lexer.specs.Classes.{blank}
use Rattle.lexer.specs.Utf8.{utf8, utf8_from}
use Rattle.lexer.specs.Words.{Numbered, label, spaced, is_word, is_quoted}
use borrow.Author.Tests.{leb-true, eqb-true, eqb-false, ne_eqb, not-true}
use lib.Dec.{eqb, leb, lit≤}
use mathlib.Core.Bool.{Bool, true, false, ◌&&◌, ◌||◌, not, true≢false}
use mathlib.Core.List.{List, [], ◌∷◌}
use mathlib.Core.Option.{none, some}
use mathlib.Core.Path.{◌≡◌, refl, sym, ap, ◌∙◌}
use native.Mathlib.Omega.{arith}

-- A token is a name by its kind and its text: then the name is its text with blanks for `_`.
given-pick : {X : Type 0} (t : Bool) (x : X) → given (pick t (some x) none) ≡ t
unfolding given pick
given-pick true x = refl
given-pick false x = refl

module _ (w : Numbered) where
  abbrev named : Bool
  named = (is_word w.token.kind || is_quoted w.token.kind) && not (blank w.token.text)

  pub label-given : given (label w) ≡ (is_word w.token.kind || is_quoted w.token.kind) && not (blank w.token.text)
  unfolding label
  label-given = given-pick named (spaced w.token.text)

  pub label-some : given (label w) ≡ true → label w ≡ some (spaced w.token.text)
  unfolding label
  label-some h = pick_first named (some (spaced w.token.text)) none (sym label-given ∙ h)

  pub label-none : given (label w) ≡ false → label w ≡ none
  unfolding label
  label-none h = pick_second named (some (spaced w.token.text)) none (sym label-given ∙ h)

-- The parts of a name that document 01 and the conditions of 31 speak of.
pub record NameParts (n : List ℕ) : Type 0 where
  pub utf : utf8 n ≡ true
  pub unlined : among 95 n ≡ false
  pub returnless : among 13 n ≡ false
  pub marked : not (blank n) || among 32 n ≡ true

-- An underscore is a character of its own, and so is the blank that takes its place.
lined-utf8 : (n low high : ℕ) (r t : List ℕ) → 128 ≤ low → utf8_from n low high (95 ∷ r) ≡ true
    → (utf8_from 0 128 191 r ≡ true → utf8_from 0 128 191 t ≡ true) → utf8_from n low high (32 ∷ t) ≡ true
unfolding utf8_from pick
lined-utf8 zero low high r t le h k = k h
lined-utf8 (suc n) low high r t le h k =
    let l = leb-true low 95 (and_left (leb low 95) (leb 95 high) (and_left (leb low 95 && leb 95 high) (utf8_from n 128 191 r) h)) in
    absurd (omega arith)

spaced-utf8 : (t : List ℕ) (n low high : ℕ) → 128 ≤ low → high ≤ 191 → utf8_from n low high t ≡ true → utf8_from n low high (spaced t) ≡ true
unfolding spaced pick
spaced-utf8 [] n low high le he h = h
spaced-utf8 (b ∷ r) n low high le he h =
    let f = behind n low high b r h in
    let more = spaced-utf8 r f.more f.from f.to f.later f.last f.rest in
    let alone = spaced-utf8 r 0 128 191 (lit≤ tt) (lit≤ tt) in
    by-test (eqb b 95) (λ e. rw e (lined-utf8 n low high r (spaced r) le (rw (eqb-true b 95 e) at h) alone)) (λ e. rw e (f.before (spaced r) more))

spaced-unlined : (t : List ℕ) → among 95 (spaced t) ≡ false
unfolding spaced among pick
spaced-unlined [] = refl
spaced-unlined (b ∷ r) = by-test (eqb b 95) (λ e. rw e (spaced-unlined r)) (λ e. rw e (or-both (ne_eqb 95 b (λ p. eqb-false b 95 e (sym p))) (spaced-unlined r)))

spaced-returnless : (t : List ℕ) → among 13 t ≡ false → among 13 (spaced t) ≡ false
unfolding spaced among pick
spaced-returnless [] h = refl
spaced-returnless (b ∷ r) h =
    let more = spaced-returnless r (or_right (eqb 13 b) (among 13 r) h) in
    by-test (eqb b 95) (λ e. rw e more) (λ e. rw e (or-both (or_left (eqb 13 b) (among 13 r) h) more))

-- Without a U+0020 in it nothing was replaced.
spaced-same : (t : List ℕ) → among 32 (spaced t) ≡ false → spaced t ≡ t
unfolding spaced among pick
spaced-same [] h = refl
spaced-same (b ∷ r) h = by-test (eqb b 95) (λ e. absurd (true≢false (rw e at h))) (λ e. rw e (ap (λ t. b ∷ t) (spaced-same r (or_right (eqb 32 b) (among 32 (spaced r)) (rw e at h)))))

pub label-parts : (w : Numbered) (n : List ℕ) → label w ≡ some n → clean-text w.token.text ≡ true → NameParts n
unfolding label clean-text utf8
label-parts w n h c =
    let text = w.token.text in
    let named = is_word w.token.kind || is_quoted w.token.kind in
    let test = picked (named && not (blank text)) (spaced text) n h in
    let e = picked_value (named && not (blank text)) (spaced text) n h in
    let full = and_right named (not (blank text)) test in
    let u = and_left (utf8 text) (not (among 13 text)) c in
    let r = not-true (among 13 text) (and_right (utf8 text) (not (among 13 text)) c) in
    let marked : not (blank (spaced text)) || among 32 (spaced text) ≡ true =
    by-test (among 32 (spaced text)) (λ p. rw p (or-true (not (blank (spaced text))))) (λ p. rw (spaced-same text p) (or-first (not (blank text)) (among 32 text) full)) in
    rw (← e) (record {
      utf = spaced-utf8 text 0 128 191 (lit≤ tt) (lit≤ tt) u;
      unlined = spaced-unlined text;
      returnless = spaced-returnless text r;
      marked = marked;
    })
