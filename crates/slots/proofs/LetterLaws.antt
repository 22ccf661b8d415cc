-- The letters of a name: those of names that are alike, and one after the other. Assumes nothing.
use Prim.Native.Nat.{ℕ, ◌+◌, ◌≤◌}
use Rattle.lexer.proofs.Basics.{and_left, and_right}
use Rattle.lexer.proofs.Yielded.{YieldsByte}
use Rattle.lexer.specs.Base.{pick, alike, lower}
use Rattle.lexer.specs.Bytes.{left}
use Rattle.lexer.specs.Words.{spaced}
use Rattle.lexer.specs.declared.Cursor.{Cursor}
use Rattle.slots.specs.Trie.{letters, letters_left, LetterTold}
use borrow.Author.Tests.{eqb-true}
use lib.Dec.{eqb}
use mathlib.Core.Bool.{true, false≢true}
use mathlib.Core.List.{List, [], ◌∷◌}
use mathlib.Core.Path.{◌≡◌, refl}
use native.Mathlib.Omega.{arith}

-- Names that are alike have the same letters.
pub alike-letters : (l r : List ℕ) → alike l r ≡ true → letters l ≡ letters r
unfolding alike letters
alike-letters [] [] e = refl
alike-letters [] (b ∷ r) e = absurd (false≢true e)
alike-letters (a ∷ l) [] e = absurd (false≢true e)
alike-letters (a ∷ l) (b ∷ r) e =
    rw (eqb-true (lower a) (lower b) (and_left (eqb (lower a) (lower b)) (alike l r) e), alike-letters l r (and_right (eqb (lower a) (lower b)) (alike l r) e))

module _ {text : List ℕ} {c : Cursor} where
  pub letter-more : {b : ℕ} {d : Cursor} → YieldsByte text c.at (left text c) b d → {x : ℕ} → (x ≡ lower (pick (eqb b 95) 32 b) + 1) × (x ≤ 256) → LetterTold text c (record { code = x; next = d })
  unfolding letters letters_left spaced
  letter-more y {x} m =
      record {
        some = omega (arith, m.0);
        few = omega (arith, m.1);
        last = λ e. absurd (omega (arith, m.1));
        more = λ _. record { here = rw (y.here, m.0); ahead = y.ahead; within = y.within };
      }

  pub letter-last : left text c ≡ [] → LetterTold text c (record { code = 257; next = c })
  unfolding letters letters_left spaced
  letter-last e = record { some = omega arith; few = omega arith; last = λ _. rw e; more = λ o. absurd (o refl) }
