-- Walks over a part of a word, up to the next dash: the number that it spells, and its end. Assumes nothing.
use Prim.Native.Nat.{ℕ, ◌+◌, ◌*◌, ◌-◌, ◌≤◌, ◌<◌}
use Rattle.assumptions.specs.ListParts.{PartEnd, digits_value}
use Rattle.block.specs.CharacterList.{to_dash, cut_from}
use Rattle.lexer.proofs.TextWalks.{bounded, digits-large}
use Rattle.lexer.proofs.Yielded.{YieldsByte}
use Rattle.lexer.specs.Base.{pick}
use Rattle.lexer.specs.Bytes.{left}
use Rattle.lexer.specs.Words.{Numbered, digits, largest}
use Rattle.lexer.specs.declared.Cursor.{Cursor}
use borrow.Author.Tests.{eq-eqb, ne_eqb, le-leb}
use lib.Dec.{leb}
use lib.ListN.{length}
use mathlib.Core.Bool.{true, false, ◌&&◌}
use mathlib.Core.List.{List, [], ◌∷◌}
use mathlib.Core.Path.{◌≡◌, refl, sym, ◌∙◌}
use native.Mathlib.Omega.{arith}

-- The bytes up to the next dash
module _ (b : ℕ) (l r : List ℕ) (here : l ≡ b ∷ r) where
  pub to-dash-on : (b ≡ 45 → ⊥) → to_dash l ≡ b ∷ to_dash r
  unfolding to_dash pick
  to-dash-on h = rw (here, ne_eqb b 45 h)

  to-dash-over : b ≡ 45 → to_dash l ≡ []
  unfolding to_dash pick
  to-dash-over h = rw (here, eq-eqb b 45 h)

-- The number of a part, as far as it has 64 bits.
pub record Valuing (text : List ℕ) (c d : Cursor) (n : ℕ) : Type 0 where
  pub small : n ≤ 18446744073709551615
  pub rest : bounded (digits n (to_dash (left text d))) ≡ digits_value (left text c)

pub valuing-start : (text : List ℕ) (c : Cursor) → Valuing text c c 0
unfolding digits_value
valuing-start text c = record { small = omega arith; rest = refl }

module _ (text : List ℕ) (c d : Cursor) (n : ℕ) (k : Valuing text c d n) where
  done : to_dash (left text d) ≡ [] → n ≡ digits_value (left text c)
  unfolding digits largest pick
  done e = sym (rw (e, le-leb n 18446744073709551615 k.small)) ∙ k.rest

  pub valuing-end : left text d ≡ [] → n ≡ digits_value (left text c)
  unfolding to_dash
  valuing-end e = done (rw e)

  module _ (b : ℕ) (e : Cursor) (y : YieldsByte text d.at (left text d) b e) where
    pub valuing-dash : b ≡ 45 → n ≡ digits_value (left text c)
    valuing-dash h = done (to-dash-over b (left text d) (left text e) y.here h)

    module _ (h : b ≡ 45 → ⊥) where
      pub valuing-other : (leb 48 b && leb b 57 ≡ false) → 0 ≡ digits_value (left text c)
      unfolding digits largest pick
      valuing-other f = sym (rw (to-dash-on b (left text d) (left text e) y.here h, f)) ∙ k.rest

      module _ (t : leb 48 b && leb b 57 ≡ true) where
        digit : bounded (digits n (to_dash (left text d))) ≡ bounded (digits (n * 10 + (b - 48)) (to_dash (left text e)))
        unfolding digits pick
        digit = rw (to-dash-on b (left text d) (left text e) y.here h, t)

        pub valuing-large : 18446744073709551615 < n * 10 + (b - 48) → 0 ≡ digits_value (left text c)
        valuing-large l = sym (digit ∙ digits-large (n * 10 + (b - 48)) (to_dash (left text e)) l) ∙ k.rest

        pub valuing-turn : n * 10 + (b - 48) ≤ 18446744073709551615 → Valuing text c e (n * 10 + (b - 48))
        valuing-turn l = record { small = l; rest = sym digit ∙ k.rest }

-- The end of a part that has begun
pub record Ending (text : List ℕ) (c d : Cursor) : Type 0 where
  pub rest : (w : Numbered) → cut_from w true (left text c) ≡ cut_from w true (left text d)
  pub onward : c.at ≤ d.at
  pub within : c.at ≤ length text → d.at ≤ length text

module _ (text : List ℕ) (c d : Cursor) (k : Ending text c d) where
  module _ (b : ℕ) (e : Cursor) (y : YieldsByte text d.at (left text d) b e) where
    pub ending-turn : (b ≡ 45 → ⊥) → Ending text c e
    unfolding cut_from pick
    ending-turn h =
        record {
          rest = λ w. k.rest w ∙ rw (y.here, ne_eqb b 45 h);
          onward = omega (arith, k.onward, y.ahead);
          within = λ _. y.within;
        }

    pub ending-dash : b ≡ 45 → PartEnd text c d
    unfolding cut_from pick
    ending-dash h = record { rest = λ w. k.rest w ∙ rw (y.here, eq-eqb b 45 h); onward = k.onward; within = k.within }

  pub ending-end : left text d ≡ [] → PartEnd text c d
  unfolding cut_from
  ending-end e = record { rest = λ w. k.rest w ∙ rw e; onward = k.onward; within = k.within }
