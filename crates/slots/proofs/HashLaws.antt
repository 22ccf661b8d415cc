-- Names that are alike have one number, which has 32 bits. Assumes nothing.
use Prim.Native.Nat.{ℕ, ◌+◌, ◌*◌, ◌≤◌, ◌<◌}
use Rattle.lexer.proofs.Basics.{and_left, and_right}
use Rattle.lexer.proofs.ListLaws.{drop-next}
use Rattle.lexer.proofs.Yielded.{YieldsByte}
use Rattle.lexer.specs.Base.{pick, alike, lower}
use Rattle.lexer.specs.Bytes.{left}
use Rattle.lexer.specs.Words.{spaced}
use Rattle.lexer.specs.declared.Cursor.{Cursor}
use Rattle.slots.specs.Hashes.{mixed, hash_from, hash}
use borrow.Author.Tests.{eqb-true}
use lib.Dec.{eqb}
use lib.ListN.{length, get_or, drop, drop_of_length-le}
use mathlib.Core.Bool.{true, false≢true}
use mathlib.Core.List.{List, [], ◌∷◌}
use mathlib.Core.Path.{◌≡◌, refl, sym, ◌∙◌}
use native.Mathlib.Nat.{mod-lt}
use native.Mathlib.Omega.{arith}

alike-mixed : (h a b : ℕ) → lower a ≡ lower b → mixed h a ≡ mixed h b
unfolding mixed
alike-mixed h a b e = rw e

alike_from : (h : ℕ) (l r : List ℕ) → alike l r ≡ true → hash_from h l ≡ hash_from h r
unfolding alike hash_from
alike_from h [] [] e = refl
alike_from h [] (b ∷ r) e = absurd (false≢true e)
alike_from h (a ∷ l) [] e = absurd (false≢true e)
alike_from h (a ∷ l) (b ∷ r) e =
    rw (alike-mixed h a b (eqb-true (lower a) (lower b) (and_left (eqb (lower a) (lower b)) (alike l r) e)))
    (alike_from (mixed h b) l r (and_right (eqb (lower a) (lower b)) (alike l r) e))

pub alike-hash : (n m : List ℕ) → alike n m ≡ true → hash n ≡ hash m
unfolding hash
alike-hash n m e = alike_from 0 n m e

-- The number of a name has 32 bits.
small-from : (h : ℕ) (n : List ℕ) → h < 4294967296 → hash_from h n < 4294967296
unfolding hash_from mixed
small-from h [] l = l
small-from h (b ∷ r) l = small-from (mixed h b) r (mod-lt ((h + lower b) * 2654435761) (omega arith))

pub hash-small : (n : List ℕ) → hash n < 4294967296
unfolding hash
hash-small n = small-from 0 n (omega arith)

-- The number of what is left of a token's text, behind that of its front, is the number of all of it.
pub record Hashing (text : List ℕ) (c d : Cursor) (h : ℕ) : Type 0 where
  pub small : h < 4294967296
  pub rest : hash_from h (spaced (left text d)) ≡ hash (spaced (left text c))

module _ (text : List ℕ) (c d : Cursor) (h : ℕ) (k : Hashing text c d h) where
  pub hashing-turn : (b : ℕ) (e : Cursor) → YieldsByte text d.at (left text d) b e → (g : ℕ) → (g ≡ mixed h (pick (eqb b 95) 32 b)) × (g < 4294967296) → Hashing text c e g
  unfolding spaced hash_from
  hashing-turn b e y g m = record { small = m.1; rest = rw m.0 (sym (rw y.here) ∙ k.rest) }

  pub hashing-end : left text d ≡ [] → h ≡ hash (spaced (left text c))
  unfolding spaced hash_from
  hashing-end e = sym (rw e) ∙ k.rest

-- The same of a run of bytes: the number of those from an index on, behind that of those in front of it, is the number of all.
pub record HashingRun (run : List ℕ) (i h : ℕ) : Type 0 where
  pub small : h < 4294967296
  pub rest : hash_from h (spaced (drop i run)) ≡ hash (spaced run)

module _ (run : List ℕ) (i h : ℕ) (k : HashingRun run i h) where
  pub run-turn : i < length run → (g : ℕ) → (g ≡ mixed h (pick (eqb (get_or run i 0) 95) 32 (get_or run i 0))) × (g < 4294967296) → HashingRun run (i + 1) g
  unfolding spaced hash_from
  run-turn lt g m = record { small = m.1; rest = rw m.0 (sym (rw (drop-next run i lt)) ∙ k.rest) }

  pub run-end : length run ≤ i → h ≡ hash (spaced run)
  unfolding spaced hash_from
  run-end le = sym (rw (drop_of_length-le run le)) ∙ k.rest
