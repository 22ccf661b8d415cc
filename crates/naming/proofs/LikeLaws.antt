-- Lines that are alike, ASCII case ignored, byte by byte; a name and its line; names are alike exactly where their escaped bytes are. Assumes nothing.
use Prim.Native.Nat.{ℕ, ◌+◌, ◌<◌}
use Rattle.lexer.proofs.Basics.{by-test}
use Rattle.lexer.specs.Base.{pick, alike, lower}
use Rattle.naming.proofs.LineLaws.{before-end, line-ended, line-more, lower-mark}
use Rattle.naming.specs.Lines.{line_at}
use borrow.Author.Tests.{eqb-true, eqb-false, eq-eqb, ne_eqb}
use lib.Dec.{eqb, lit<}
use lib.ListN.{length, get_or}
use mathlib.Core.Bool.{true, false}
use mathlib.Core.List.{List, [], ◌∷◌}
use mathlib.Core.Path.{◌≡◌, sym, ap, ◌∙◌}

-- A text without bytes is like a line that ends here.
pub ended-like : (b : List ℕ) (j : ℕ) → eqb (get_or b j 10) 10 ≡ alike [] (line_at b j)
unfolding alike
ended-like b j =
    by-test (eqb (get_or b j 10) 10)
    (λ t. t ∙ sym (rw (line-ended b j (eqb-true (get_or b j 10) 10 t))))
    (λ f. f ∙ sym (rw (line-more b j (eqb-false (get_or b j 10) 10 f))))

-- A byte in front of a text, and the first byte of a line.
module _ (b : List ℕ) (j c : ℕ) (m : List ℕ) where
  pub first-unlike : (lower c ≡ lower (get_or b j 10) → ⊥) → alike (c ∷ m) (line_at b j) ≡ false
  unfolding alike
  first-unlike other =
      by-test (eqb (get_or b j 10) 10)
      (λ t. rw (line-ended b j (eqb-true (get_or b j 10) 10 t)))
      (λ f. rw (line-more b j (eqb-false (get_or b j 10) 10 f), ne_eqb (lower c) (lower (get_or b j 10)) other))

  not-ended : lower c ≡ lower (get_or b j 10) → (c ≡ 10 → ⊥) → get_or b j 10 ≡ 10 → ⊥
  unfolding lower pick
  not-ended same other ten = other (lower-mark c 10 (lit< tt) (same ∙ ap lower ten))

  pub first-within : lower c ≡ lower (get_or b j 10) → (c ≡ 10 → ⊥) → j < length b
  first-within same other = before-end b j (not-ended same other)

  pub first-like : lower c ≡ lower (get_or b j 10) → (c ≡ 10 → ⊥) → alike (c ∷ m) (line_at b j) ≡ alike m (line_at b (j + 1))
  unfolding alike
  first-like same other = rw (line-more b j (not-ended same other), eq-eqb (lower c) (lower (get_or b j 10)) same)

-- The first bytes of two lines.
module _ (b : List ℕ) (i j : ℕ) where
  lines-unlike : (lower (get_or b i 10) ≡ lower (get_or b j 10) → ⊥) → false ≡ alike (line_at b i) (line_at b j)
  unfolding alike lower pick
  lines-unlike other =
      by-test (eqb (get_or b i 10) 10)
      (λ t.
      let ten = eqb-true (get_or b i 10) 10 t in
      let more : get_or b j 10 ≡ 10 → ⊥ = λ e. other (ap lower (ten ∙ sym e)) in
      sym (rw (line-ended b i ten) (sym (ended-like b j) ∙ ne_eqb (get_or b j 10) 10 more)))
      (λ f. sym (rw (line-more b i (eqb-false (get_or b i 10) 10 f)) (first-unlike b j (get_or b i 10) (line_at b (i + 1)) other)))

  module _ (same : lower (get_or b i 10) ≡ lower (get_or b j 10)) where
    lines-ended : get_or b i 10 ≡ 10 → true ≡ alike (line_at b i) (line_at b j)
    unfolding lower pick
    lines-ended ten =
        let both : get_or b j 10 ≡ 10 = lower-mark (get_or b j 10) 10 (lit< tt) (sym same ∙ ap lower ten) in
        sym (rw (line-ended b i ten) (sym (ended-like b j) ∙ eq-eqb (get_or b j 10) 10 both))

    lines_next : (get_or b i 10 ≡ 10 → ⊥) → alike (line_at b i) (line_at b j) ≡ alike (line_at b (i + 1)) (line_at b (j + 1))
    lines_next other = rw (line-more b i other) (first-like b j (get_or b i 10) (line_at b (i + 1)) same other)

    lines-within : (get_or b i 10 ≡ 10 → ⊥) → (i < length b) × (j < length b)
    lines-within other = (before-end b i other, first-within b j (get_or b i 10) [] same other)

-- Two lines are compared as far as here: what is left of them decides.
pub record Comparing (b : List ℕ) (first second i j : ℕ) : Type 0 where
  pub rest : alike (line_at b i) (line_at b j) ≡ alike (line_at b first) (line_at b second)

module _ (b : List ℕ) (first second i j : ℕ) (k : Comparing b first second i j) {u v : ℕ} (left : u ≡ lower (get_or b i 10)) (right : v ≡ lower (get_or b j 10)) where
  pub comparing-unlike : (u ≡ v → ⊥) → false ≡ alike (line_at b first) (line_at b second)
  comparing-unlike other = lines-unlike b i j (λ e. other (left ∙ e ∙ sym right)) ∙ k.rest

  module _ (e : u ≡ v) where
    pub comparing-ended : u ≡ 10 → true ≡ alike (line_at b first) (line_at b second)
    comparing-ended ten = lines-ended b i j (sym left ∙ e ∙ right) (lower-mark (get_or b i 10) 10 (lit< tt) (sym left ∙ ten)) ∙ k.rest

    module _ (other : u ≡ 10 → ⊥) where
      no_end : get_or b i 10 ≡ 10 → ⊥
      unfolding lower pick
      no_end ten = other (left ∙ ap lower ten)

      pub comparing-within : (i < length b) × (j < length b)
      comparing-within = lines-within b i j (sym left ∙ e ∙ right) no_end

      pub comparing-turn : Comparing b first second (i + 1) (j + 1)
      comparing-turn = record { rest = sym (lines_next b i j (sym left ∙ e ∙ right) no_end) ∙ k.rest }
