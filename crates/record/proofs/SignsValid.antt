-- The signs that stand for the cells of a sound reading are valid symbols. Assumes nothing.
use Prim.Native.Nat.{ℕ, zero, suc, ◌<◌}
use Rattle.block.specs.Dna.{acgt}
use Rattle.block.specs.Format.{valid_symbol, all_valid}
use Rattle.block.specs.Run.{run_text}
use Rattle.block.specs.declared.data.DataType.{DataType}
use Rattle.lexer.proofs.Basics.{and_left, and_right, same_true}
use Rattle.record.proofs.SymbolLaws.{symbols-valid, missing-valid, gap-valid}
use Rattle.record.specs.Form.{sign, missing_sign, gap_sign}
use Rattle.block.specs.Sound.{sound_symbols}
use borrow.Author.Tests.{ltb-true}
use lib.Dec.{ltb}
use lib.ListN.{length, get_or}
use mathlib.Core.Bool.{Bool, true}
use mathlib.Core.List.{List, [], ◌∷◌}
use mathlib.Core.Path.{◌≡◌}
use native.Mathlib.Nat.{not-suc-le-zero}
use native.Mathlib.Omega.{arith}

pub record Signs (t : DataType) (symbols : List ℕ) (gaps : Bool) : Type 0 where
  pub all : all_valid symbols ≡ true
  pub states : (i : ℕ) → ltb i (length symbols) ≡ true → valid_symbol (sign symbols i) ≡ true
  pub missing : valid_symbol (missing_sign t symbols) ≡ true
  pub gap : gaps ≡ true → valid_symbol (gap_sign t symbols) ≡ true

all-valid : (t : DataType) (symbols : List ℕ) (gaps : Bool) → sound_symbols t symbols gaps ≡ true → all_valid symbols ≡ true
unfolding sound_symbols run_text
all-valid DataType.Standard symbols gaps s = symbols-valid symbols gaps s
all-valid DataType.Dna symbols gaps s = rw (same_true symbols acgt s)

valid-at : (l : List ℕ) (i : ℕ) → all_valid l ≡ true → i < length l → valid_symbol (get_or l i 0) ≡ true
unfolding all_valid
valid-at [] i v h = absurd (not-suc-le-zero h)
valid-at (b ∷ l) zero v h = and_left (valid_symbol b) (all_valid l) v
valid-at (b ∷ l) (suc i) v h = valid-at l i (and_right (valid_symbol b) (all_valid l) v) (omega arith)

pub signs-valid : (t : DataType) (symbols : List ℕ) (gaps : Bool) → sound_symbols t symbols gaps ≡ true → Signs t symbols gaps
unfolding sign
signs-valid t symbols gaps s =
    let v : all_valid symbols ≡ true = all-valid t symbols gaps s in
    record {
      all = v;
      states = λ i h. valid-at symbols i v (ltb-true i (length symbols) h);
      missing = missing-valid t symbols gaps s;
      gap = λ g. gap-valid t symbols (rw g at s);
    }
