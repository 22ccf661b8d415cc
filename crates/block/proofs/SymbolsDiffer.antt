-- Walks over the symbols of a format that ask one thing of all: what is asked of those from an index on is what is asked of the whole.
-- Assumes nothing.
use Prim.Native.Nat.{ℕ, zero, suc, ◌+◌, ◌≤◌, ◌<◌}
use Rattle.block.specs.Format.{Format, equal, valid_symbol, all_valid, clashes, all_differ}
use Rattle.block.specs.Formats.{meant}
use Rattle.block.specs.declared.formats.Format as Code
use Rattle.lexer.proofs.ListLaws.{drop-next}
use lib.ListN.{length, get_or, take, drop, drop_of_length-le, length-take}
use lib.Seq.{get_or-take}
use mathlib.Core.Bool.{Bool, true, false}
use mathlib.Core.List.{List, [], ◌∷◌}
use mathlib.Core.Path.{◌≡◌, refl, sym, ap, ◌∙◌}
use native.Mathlib.Omega.{arith}

pub record Passing (p : List ℕ → Bool) (n : ℕ) (symbols : List ℕ) (whole : Bool) (i : ℕ) : Type 0 where
  pub rest : p (drop i (take n symbols)) ≡ whole

pub passing-start : (p : List ℕ → Bool) (n : ℕ) (symbols : List ℕ) (i : ℕ) → Passing p n symbols (p (drop i (take n symbols))) i
passing-start p n symbols i = record { rest = refl }

module _ {p : List ℕ → Bool} (n : ℕ) (symbols : List ℕ) {whole : Bool} (i : ℕ) (k : Passing p n symbols whole i) where
  module _ (h : i < length (take n symbols)) where
    here : drop i (take n symbols) ≡ get_or symbols i 0 ∷ drop (i + 1) (take n symbols)
    here = drop-next (take n symbols) i h ∙ rw (get_or-take n symbols i 0 (omega (arith, length-take n symbols)))

    pub passing-turn : p (get_or symbols i 0 ∷ drop (i + 1) (take n symbols)) ≡ p (drop (i + 1) (take n symbols)) → Passing p n symbols whole (i + 1)
    passing-turn e = record { rest = sym (rw here e) ∙ k.rest }

    pub passing-over : (v : Bool) → p (get_or symbols i 0 ∷ drop (i + 1) (take n symbols)) ≡ v → v ≡ whole
    passing-over v e = sym (rw here e) ∙ k.rest

  pub passing-end : length (take n symbols) ≤ i → p [] ≡ whole
  passing-end h = rw (drop_of_length-le (take n symbols) h) at k.rest

-- The symbols of a format are as many as its states, from the front of its array.
retake : (n : ℕ) (l : List ℕ) → take (length (take n l)) l ≡ take n l
retake zero l = refl
retake (suc n) [] = refl
retake (suc n) (b ∷ l) = ap (λ r. b ∷ r) (retake n l)

pub states-taken : (f : Code.Format) (n : ℕ) → n ≡ length (meant f).symbols → take n f.symbols ≡ (meant f).symbols
unfolding meant
states-taken f n e = rw e (retake f.count f.symbols)

-- One symbol in front of others
module _ (b : ℕ) (r : List ℕ) where
  pub valid-more : valid_symbol b ≡ true → all_valid (b ∷ r) ≡ all_valid r
  unfolding all_valid
  valid-more e = rw e

  pub invalid-over : valid_symbol b ≡ false → all_valid (b ∷ r) ≡ false
  unfolding all_valid
  invalid-over e = rw e

  module _ (f : Format) (a : ℕ) where
    pub clash-over : equal f a b ≡ true → clashes f a (b ∷ r) ≡ true
    unfolding clashes
    clash-over e = rw e

    pub clash-more : equal f a b ≡ false → clashes f a (b ∷ r) ≡ clashes f a r
    unfolding clashes
    clash-more e = rw e

  module _ (f : Format) where
    pub differ-over : clashes f b r ≡ true → all_differ f (b ∷ r) ≡ false
    unfolding all_differ
    differ-over e = rw e

    pub differ-more : clashes f b r ≡ false → all_differ f (b ∷ r) ≡ all_differ f r
    unfolding all_differ
    differ-more e = rw e
