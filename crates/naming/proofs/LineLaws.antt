-- The line at a place, byte by byte: where it ends, and what stands before it does. Assumes nothing.
use Rattle.std.specs.Prelude.{Some, None, Option}
use Prim.Native.Nat.{ℕ, zero, suc, ◌+◌, ◌-◌, ◌≤◌, ◌<◌}
use Rattle.lexer.proofs.Basics.{by-test, or_left, or_right}
use Rattle.lexer.proofs.ListLaws.{drop-next}
use Rattle.lexer.specs.Base.{pick, among, lower}
use Rattle.naming.specs.Lines.{to_end, line_at}
use borrow.Author.Tests.{eqb-false, ne_eqb, ltb-true, ltb-false, leb-true}
use lib.Dec.{eqb, ltb, leb}
use lib.ListN.{length, get_or, drop, drop_of_length-le, get_or-eq_default, length-drop}
use mathlib.Core.Bool.{Bool, true, false, ◌&&◌}
use mathlib.Core.List.{List, [], ◌∷◌, ◌++◌}
use mathlib.Core.Path.{◌≡◌, refl, sym, ap, ◌∙◌}
use native.Mathlib.Omega.{arith}

-- Where there is no place behind, there is none.
pub no_place : (r : Option ℕ) → ((next : ℕ) → r ≡ Some next → ⊥) → r ≡ None
no_place None not = refl
no_place (Some next) not = absurd (not next refl)

-- Below the length it is one byte, whatever stands for those behind the end.
pub same_byte : (l : List ℕ) (i d e : ℕ) → i < length l → get_or l i d ≡ get_or l i e
same_byte [] i d e h = absurd (omega arith)
same_byte (a ∷ l) zero d e h = refl
same_byte (a ∷ l) (suc i) d e h = same_byte l i d e (omega arith)

-- A byte other than LF stands before the end.
pub before-end : (b : List ℕ) (i : ℕ) → (get_or b i 10 ≡ 10 → ⊥) → i < length b
before-end b i other = by-test (ltb i (length b)) (λ t. ltb-true i (length b) t) (λ f. absurd (other (get_or-eq_default b 10 (ltb-false i (length b) f))))

-- At an LF, or behind the end, the line is empty.
pub line-ended : (b : List ℕ) (i : ℕ) → get_or b i 10 ≡ 10 → line_at b i ≡ []
unfolding line_at to_end pick
line-ended b i e =
    by-test (ltb i (length b))
    (λ t. let h = ltb-true i (length b) t in let ten : get_or b i 0 ≡ 10 = same_byte b i 0 10 h ∙ e in rw (drop-next b i h, ten))
    (λ f. rw (drop_of_length-le b (ltb-false i (length b) f)))

-- Any other byte is the line's first.
pub line-more : (b : List ℕ) (i : ℕ) → (get_or b i 10 ≡ 10 → ⊥) → line_at b i ≡ get_or b i 10 ∷ line_at b (i + 1)
unfolding line_at to_end pick
line-more b i other =
    let h = before-end b i other in
    let same = same_byte b i 0 10 h in
    let none : eqb (get_or b i 10) 10 ≡ false = ne_eqb (get_or b i 10) 10 other in
    rw (drop-next b i h, same, none)

-- Bytes without LF in front of one are the line.
pub line-front : (l rest : List ℕ) → among 10 l ≡ false → to_end (l ++ (10 ∷ rest)) ≡ l
unfolding to_end among pick
line-front [] rest h = refl
line-front (a ∷ l) rest h =
    let other : eqb a 10 ≡ false = ne_eqb a 10 (λ q. eqb-false 10 a (or_left (eqb 10 a) (among 10 l) h) (sym q)) in
    rw (other, line-front l rest (or_right (eqb 10 a) (among 10 l) h))

-- A line is not longer than what is left of the bytes.
to-end-short : (l : List ℕ) → length (to_end l) ≤ length l
unfolding to_end pick
to-end-short [] = omega arith
to-end-short (a ∷ l) = go (eqb a 10) (to-end-short l)
  where
    go : (t : Bool) → length (to_end l) ≤ length l → length (pick t [] (a ∷ to_end l)) ≤ suc (length l)
    go true h = omega arith
    go false h = omega arith

pub line-short : (b : List ℕ) (i : ℕ) → length (line_at b i) ≤ length b - i
unfolding line_at
line-short b i = omega (arith, to-end-short (drop i b), length-drop i b)

-- The small letter of a byte is a mark before the small letters only where the byte is.
pub lower-mark : (b k : ℕ) → k < 97 → lower b ≡ k → b ≡ k
unfolding lower pick
lower-mark b k h = go (leb 65 b) refl (leb b 90)
  where
    go : (t : Bool) → leb 65 b ≡ t → (u : Bool) → pick (t && u) (b + 32) b ≡ k → b ≡ k
    go true e true q = let l = leb-true 65 b e in absurd (omega arith)
    go true e false q = q
    go false e u q = q

-- A walk to the end of a line: from here it ends where it ends from its first byte on.
pub record Ending (b : List ℕ) (from at : ℕ) : Type 0 where
  pub rest : at + length (line_at b at) ≡ from + length (line_at b from)

module _ (b : List ℕ) (from at : ℕ) (k : Ending b from at) {x : ℕ} (is : x ≡ get_or b at 10) where
  pub ending-end : x ≡ 10 → at ≡ from + length (line_at b from)
  ending-end ten = let none = ap length (line-ended b at (sym is ∙ ten)) in omega (arith, k.rest)

  pub ending-within : (x ≡ 10 → ⊥) → at < length b
  ending-within other = before-end b at (λ ten. other (is ∙ ten))

  pub ending-turn : (x ≡ 10 → ⊥) → Ending b from (at + 1)
  ending-turn other = let one = ap length (line-more b at (λ ten. other (is ∙ ten))) in record { rest = omega (arith, k.rest) }
