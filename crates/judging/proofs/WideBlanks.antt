-- Whether a character of White_Space beyond ASCII begins with a byte: of the bytes behind it at most two matter, and of these only those from 128 on,
-- so that the escapes behind it do not matter. Assumes nothing.
use Prim.Native.Nat.{ℕ, ◌≤◌, ◌<◌}
use Rattle.judging.proofs.EscapedLines.{ended, escaped-cases, unescape-ascii}
use Rattle.judging.specs.NameRest.{unescape}
use Rattle.lexer.proofs.Basics.{and-false}
use Rattle.lexer.specs.Classes.{wide_blank, next1, next2, general_blank, general}
use Rattle.record.specs.Spell.{escaped}
use borrow.Author.Tests.{lt-leb, ne_eqb}
use lib.Dec.{eqb, lit<}
use mathlib.Core.Bool.{false}
use mathlib.Core.List.{List, [], ◌∷◌, ◌++◌}
use mathlib.Core.Path.{◌≡◌, refl, sym, ◌∙◌}
use native.Mathlib.Omega.{arith}

-- Below 194 no such character begins.
pub wide_below : (b : ℕ) (n : List ℕ) → b < 194 → wide_blank b n ≡ false
unfolding wide_blank
wide_below b n h =
    rw (ne_eqb b 194 (λ e. omega arith), ne_eqb b 225 (λ e. omega arith), ne_eqb b 226 (λ e. omega arith), ne_eqb b 227 (λ e. omega arith))

module _ (k : ℕ) (low : k < 128) where
  far : (j : ℕ) → 128 ≤ j → eqb k j ≡ false
  far j h = ne_eqb k j (λ e. omega arith)

  -- An ASCII byte behind it is as none.
  wide-first : (b : ℕ) (n : List ℕ) → wide_blank b (k ∷ n) ≡ wide_blank b []
  unfolding wide_blank next1 next2 general_blank
  wide-first b [] = rw (far 133 (omega arith), far 160 (omega arith))
  wide-first b (y ∷ n) = rw (far 133 (omega arith), far 160 (omega arith), far 154 (omega arith), far 128 (omega arith), far 129 (omega arith))

  wide-second : (b x : ℕ) (n : List ℕ) → wide_blank b (x ∷ k ∷ n) ≡ wide_blank b (x ∷ [])
  unfolding wide_blank next1 next2 general_blank general
  wide-second b x n =
      rw (lt-leb 128 k low, far 128 (omega arith), far 168 (omega arith), far 169 (omega arith), far 175 (omega arith), far 159 (omega arith), and-false (eqb x 154), and-false (eqb x 128), and-false (eqb x 129))

-- A text tells it as its line does.
pub wide-ended : (b : ℕ) (n rest : List ℕ) → wide_blank b (ended n ++ rest) ≡ wide_blank b n
unfolding wide_blank next1 next2 general_blank escaped
wide-ended b [] rest = wide-first 10 (lit< tt) b rest
wide-ended b (x ∷ m) rest =
    escaped-cases (λ l. wide_blank b l ≡ wide_blank b (x ∷ m)) x m rest (λ y t e some. wide-first 92 (lit< tt) b (y ∷ t) ∙ sym (wide-first x (low x y e) b m)) (λ p q. second m)
  where
    low : (x y : ℕ) → x ≡ unescape y → x < 128
    low x y e = rw e (unescape-ascii y)

    second : (m : List ℕ) → wide_blank b (x ∷ (ended m ++ rest)) ≡ wide_blank b (x ∷ m)
    second [] = wide-second 10 (lit< tt) b x rest
    second (y ∷ l) =
        escaped-cases (λ t. wide_blank b (x ∷ t) ≡ wide_blank b (x ∷ y ∷ l)) y l rest (λ z t e some. wide-second 92 (lit< tt) b x (z ∷ t) ∙ sym (wide-second y (low y z e) b x l)) (λ p q. refl)
