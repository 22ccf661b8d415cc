-- Two runs of bytes of a text compared as names, byte by byte; and names of different lengths. Assumes nothing.
use Prim.Native.Nat.{ℕ, suc, ◌+◌, ◌-◌, ◌≤◌, ◌<◌}
use Rattle.lexer.proofs.Basics.{by-test, and_right}
use Rattle.lexer.proofs.ListLaws.{drop-next}
use Rattle.lexer.specs.Base.{alike, lower, pick}
use Rattle.lexer.specs.Lexing.{token_at}
use Rattle.lexer.specs.PlainWords.{PlainWord, part}
use Rattle.lexer.specs.Words.{spaced}
use borrow.Author.Tests.{eq-eqb, ne_eqb}
use lib.Dec.{eqb}
use lib.ListN.{length, get_or, take, drop, length-drop}
use lib.Seq.{length-take-le}
use mathlib.Core.Bool.{Bool, true, false, ◌&&◌, false≢true}
use mathlib.Core.List.{List, [], ◌∷◌}
use mathlib.Core.Path.{◌≡◌, refl, sym, ap, ◌∙◌}
use native.Mathlib.Omega.{arith}

-- Are the bytes of two runs alike, so many; and from the i-th on?
module _ (text : List ℕ) (a b count : ℕ) where
  abbrev whole : Bool
  whole = alike (spaced (take count (drop a text))) (spaced (take count (drop b text)))

  abbrev from : ℕ → Bool
  from i = alike (spaced (take (count - i) (drop (a + i) text))) (spaced (take (count - i) (drop (b + i) text)))

  pub record ComparingRuns (i : ℕ) : Type 0 where
    pub ahead : i ≤ count
    pub rest : whole ≡ from i

  pub runs-start : ComparingRuns 0
  runs-start =
      let none : count - 0 ≡ count = omega arith in
      let x : a + 0 ≡ a = omega arith in
      let y : b + 0 ≡ b = omega arith in
      record { ahead = omega arith; rest = rw (none, x, y) refl }

  module _ (i : ℕ) (s : ComparingRuns i) where
    -- one byte of each, and the rest
    one : i < count → a + count ≤ length text → b + count ≤ length text
        → from i ≡ eqb (lower (pick (eqb (get_or text (a + i) 0) 95) 32 (get_or text (a + i) 0))) (lower (pick (eqb (get_or text (b + i) 0) 95) 32 (get_or text (b + i) 0))) && from (i + 1)
    unfolding alike spaced
    one h p q =
        let left : count - i ≡ suc (count - (i + 1)) = omega arith in
        let x : a + i + 1 ≡ a + (i + 1) = omega arith in
        let y : b + i + 1 ≡ b + (i + 1) = omega arith in
        rw (left, drop-next text (a + i) (omega arith), drop-next text (b + i) (omega arith), x, y) refl

    module _ (h : i < count) (p : a + count ≤ length text) (q : b + count ≤ length text) where
      pub runs-turn : lower (pick (eqb (get_or text (a + i) 0) 95) 32 (get_or text (a + i) 0)) ≡ lower (pick (eqb (get_or text (b + i) 0) 95) 32 (get_or text (b + i) 0)) → ComparingRuns (i + 1)
      runs-turn e = record { ahead = omega arith; rest = s.rest ∙ one h p q ∙ rw (eq-eqb _ _ e) refl }

      pub runs-over : (lower (pick (eqb (get_or text (a + i) 0) 95) 32 (get_or text (a + i) 0)) ≡ lower (pick (eqb (get_or text (b + i) 0) 95) 32 (get_or text (b + i) 0)) → ⊥) → false ≡ whole
      runs-over n = sym (s.rest ∙ one h p q ∙ rw (ne_eqb _ _ n) refl)

    pub runs-end : count ≤ i → true ≡ whole
    unfolding alike spaced
    runs-end h =
        let none : count - i ≡ 0 = omega arith in
        sym (s.rest ∙ rw none refl)

-- Names that are alike have as many bytes.
spaced-length : (l : List ℕ) → length (spaced l) ≡ length l
unfolding spaced
spaced-length [] = refl
spaced-length (b ∷ r) = ap suc (spaced-length r)

alike-length : (l r : List ℕ) → alike l r ≡ true → length l ≡ length r
unfolding alike
alike-length [] [] h = refl
alike-length [] (b ∷ r) h = absurd (false≢true h)
alike-length (a ∷ l) [] h = absurd (false≢true h)
alike-length (a ∷ l) (b ∷ r) h = ap suc (alike-length l r (and_right (eqb (lower a) (lower b)) (alike l r) h))

lengths_differ : (l r : List ℕ) → (length l ≡ length r → ⊥) → false ≡ alike (spaced l) (spaced r)
lengths_differ l r n =
    by-test (alike (spaced l) (spaced r))
    (λ t. absurd (n (sym (spaced-length l) ∙ alike-length (spaced l) (spaced r) t ∙ spaced-length r)))
    (λ f. sym f)

-- Two words that are told by their bytes: compared byte by byte where they are as long, and else never alike.
module _ (text : List ℕ) (a x b y : ℕ) (p : PlainWord text a x) (q : PlainWord text b y) where
  abbrev both : Bool
  both = alike (spaced (token_at text a).text) (spaced (token_at text b).text)

  pub words-as-long : x - a ≡ y - b → alike (spaced (take (x - a) (drop a text))) (spaced (take (x - a) (drop b text))) ≡ both
  words-as-long e = rw (p.told, q.told, ← e) refl

  pub words-differ : (x - a ≡ y - b → ⊥) → false ≡ both
  words-differ n =
      let within = p.within in
      let inside = q.within in
      let first : length (part text a x) ≡ x - a = length-take-le (x - a) (drop a text) (rw (length-drop a text) (omega arith)) in
      let second : length (part text b y) ≡ y - b = length-take-le (y - b) (drop b text) (rw (length-drop b text) (omega arith)) in
      rw (p.told, q.told) (lengths_differ (part text a x) (part text b y) (λ e. n (sym first ∙ e ∙ second)))
