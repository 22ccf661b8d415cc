-- What the loops over the text of a token keep, from byte to byte: all White_Space, the same as a key, the same as another name, a number.
-- Assumes nothing.
use Prim.Native.Nat.{ℕ, ◌+◌, ◌*◌, ◌-◌, ◌≤◌, ◌<◌}
use Rattle.lexer.proofs.BlankBytes.{blank_part}
use Rattle.lexer.proofs.ListLaws.{drop-next}
use Rattle.lexer.proofs.Yielded.{YieldsByte}
use Rattle.lexer.specs.Base.{pick, alike, lower, is_empty}
use Rattle.lexer.specs.Bytes.{left}
use Rattle.lexer.specs.Classes.{blank}
use Rattle.lexer.specs.Words.{spaced, digits, largest, unsigned, positive}
use Rattle.lexer.specs.declared.Cursor.{Cursor}
use borrow.Author.Tests.{eq-eqb, ne_eqb, le-leb, lt-leb}
use lib.Dec.{eqb, leb}
use lib.ListN.{length, get_or, drop, drop_of_length-le}
use mathlib.Core.Bool.{Bool, true, false, ◌&&◌}
use mathlib.Core.List.{List, [], ◌∷◌}
use mathlib.Core.Path.{◌≡◌, refl, sym, ◌∙◌}
use native.Mathlib.Omega.{arith}

-- Is it all White_Space?
pub record Blanking (text : List ℕ) (c d : Cursor) : Type 0 where
  pub rest : blank (left text d) ≡ blank (left text c)

module _ (text : List ℕ) (c d : Cursor) (k : Blanking text c d) where
  module _ (b : ℕ) (e : Cursor) (y : YieldsByte text d.at (left text d) b e) (p : Bool) (is : p ≡ blank_part b (left text e)) where
    pub blanking-turn : p ≡ true → Blanking text c e
    unfolding blank
    blanking-turn t = record { rest = sym (rw (y.here, ← is, t)) ∙ k.rest }

    pub blanking-over : p ≡ false → false ≡ blank (left text c)
    unfolding blank
    blanking-over f = sym (rw (y.here, ← is, f)) ∙ k.rest

  pub blanking-end : left text d ≡ [] → true ≡ blank (left text c)
  unfolding blank
  blanking-end e = sym (rw e) ∙ k.rest

-- Nothing is alike to a text of which nothing is left.
alike-none : (l : List ℕ) → alike [] l ≡ is_empty l
unfolding alike is_empty
alike-none [] = refl
alike-none (b ∷ r) = refl

-- Is it this key?
pub record Matching (text key : List ℕ) (c d : Cursor) (i : ℕ) : Type 0 where
  pub short : i ≤ length key
  pub rest : alike (drop i key) (left text d) ≡ alike key (left text c)

module _ (text key : List ℕ) (c d : Cursor) (i : ℕ) (k : Matching text key c d i) where
  module _ (h : i < length key) where
    module _ (b : ℕ) (e : Cursor) (y : YieldsByte text d.at (left text d) b e) where
      byte : alike (drop i key) (left text d) ≡ eqb (lower (get_or key i 0)) (lower b) && alike (drop (i + 1) key) (left text e)
      unfolding alike
      byte = rw (drop-next key i h, y.here)

      pub matching-turn : lower (get_or key i 0) ≡ lower b → Matching text key c e (i + 1)
      matching-turn s = record { short = omega arith; rest = sym (byte ∙ rw (eq-eqb (lower (get_or key i 0)) (lower b) s)) ∙ k.rest }

      pub matching-over : (lower (get_or key i 0) ≡ lower b → ⊥) → false ≡ alike key (left text c)
      matching-over s = sym (byte ∙ rw (ne_eqb (lower (get_or key i 0)) (lower b) s)) ∙ k.rest

    pub matching-short : left text d ≡ [] → false ≡ alike key (left text c)
    unfolding alike
    matching-short e = sym (rw (drop-next key i h, e)) ∙ k.rest

  pub matching-end : length key ≤ i → is_empty (left text d) ≡ alike key (left text c)
  matching-end h = sym (rw (drop_of_length-le key h) (alike-none (left text d))) ∙ k.rest

-- Is it the same name as another text?
pub record Comparing (text : List ℕ) (x y c d : Cursor) : Type 0 where
  pub rest : alike (spaced (left text c)) (spaced (left text d)) ≡ alike (spaced (left text x)) (spaced (left text y))

-- a byte as names are compared
abbrev pub folded : ℕ → ℕ
folded b = lower (pick (eqb b 95) 32 b)

empty-spaced : (l : List ℕ) → is_empty (spaced l) ≡ is_empty l
unfolding spaced is_empty
empty-spaced [] = refl
empty-spaced (b ∷ r) = refl

module _ (text : List ℕ) (x y c d : Cursor) (k : Comparing text x y c d) where
  module _ (a : ℕ) (e : Cursor) (p : YieldsByte text c.at (left text c) a e) where
    module _ (b : ℕ) (f : Cursor) (q : YieldsByte text d.at (left text d) b f) where
      bytes : alike (spaced (left text c)) (spaced (left text d)) ≡ eqb (folded a) (folded b) && alike (spaced (left text e)) (spaced (left text f))
      unfolding alike spaced
      bytes = rw (p.here, q.here)

      pub comparing-turn : folded a ≡ folded b → Comparing text x y e f
      comparing-turn s = record { rest = sym (bytes ∙ rw (eq-eqb (folded a) (folded b) s)) ∙ k.rest }

      pub comparing-over : (folded a ≡ folded b → ⊥) → false ≡ alike (spaced (left text x)) (spaced (left text y))
      comparing-over s = sym (bytes ∙ rw (ne_eqb (folded a) (folded b) s)) ∙ k.rest

    pub comparing-short : left text d ≡ [] → false ≡ alike (spaced (left text x)) (spaced (left text y))
    unfolding alike spaced
    comparing-short n = sym (rw (p.here, n)) ∙ k.rest

  pub comparing-end : left text c ≡ [] → is_empty (left text d) ≡ alike (spaced (left text x)) (spaced (left text y))
  unfolding spaced
  comparing-end n = sym (rw n (alike-none (spaced (left text d)) ∙ empty-spaced (left text d))) ∙ k.rest

-- The number that digits spell, as far as it has 64 bits.
abbrev pub bounded : ℕ → ℕ
bounded n = pick (leb n largest) n 0

pub record Counting (text : List ℕ) (c d : Cursor) (n : ℕ) : Type 0 where
  pub small : n ≤ 18446744073709551615
  pub rest : bounded (digits n (left text d)) ≡ bounded (digits 0 (left text c))

-- A number that has more stays so, whatever follows.
pub digits-large : (n : ℕ) (r : List ℕ) → 18446744073709551615 < n → bounded (digits n r) ≡ 0
unfolding digits largest pick
digits-large n [] h = rw (lt-leb n 18446744073709551615 h)
digits-large n (b ∷ r) h = go (leb 48 b && leb b 57) (digits-large (n * 10 + (b - 48)) r (omega arith))
  where
    go : (t : Bool) → bounded (digits (n * 10 + (b - 48)) r) ≡ 0 → bounded (pick t (digits (n * 10 + (b - 48)) r) 0) ≡ 0
    go true e = e
    go false e = refl

module _ (text : List ℕ) (c d : Cursor) (n : ℕ) (k : Counting text c d n) where
  module _ (b : ℕ) (e : Cursor) (y : YieldsByte text d.at (left text d) b e) where
    pub counting-other : (leb 48 b && leb b 57 ≡ false) → 0 ≡ bounded (digits 0 (left text c))
    unfolding digits largest pick
    counting-other f = sym (rw (y.here, f)) ∙ k.rest

    module _ (t : leb 48 b && leb b 57 ≡ true) where
      digit : bounded (digits n (left text d)) ≡ bounded (digits (n * 10 + (b - 48)) (left text e))
      unfolding digits pick
      digit = rw (y.here, t)

      pub counting-large : 18446744073709551615 < n * 10 + (b - 48) → 0 ≡ bounded (digits 0 (left text c))
      counting-large h = sym (digit ∙ digits-large (n * 10 + (b - 48)) (left text e) h) ∙ k.rest

      pub counting-turn : n * 10 + (b - 48) ≤ 18446744073709551615 → Counting text c e (n * 10 + (b - 48))
      counting-turn h = record { small = h; rest = sym digit ∙ k.rest }

  pub counting-end : left text d ≡ [] → n ≡ bounded (digits 0 (left text c))
  unfolding digits largest pick
  counting-end e = sym (rw (e, le-leb n 18446744073709551615 k.small)) ∙ k.rest

-- The number that a text spells: with a `+` in front, without one, and none.
pub positive-plus : (l : List ℕ) (b : ℕ) (r : List ℕ) → l ≡ b ∷ r → b ≡ 43 → bounded (digits 0 r) ≡ positive l
unfolding positive unsigned pick
positive-plus l b r e p = rw (e, eq-eqb b 43 p)

pub positive-plain : (l : List ℕ) (b : ℕ) (r : List ℕ) → l ≡ b ∷ r → (b ≡ 43 → ⊥) → bounded (digits 0 l) ≡ positive l
unfolding positive unsigned pick
positive-plain l b r e p = rw (e, ne_eqb b 43 p)

pub positive-none : (l : List ℕ) → l ≡ [] → 0 ≡ positive l
unfolding positive unsigned largest pick
positive-none l e = rw e
