-- Whether symbols may stand together, part by part; more than 74 never may. Assumes nothing.
use Prim.Native.Nat.{◌≤◌, ◌<◌}
use Rattle.block.proofs.FormatSound.{at-most-74, states-distinct}
use Rattle.block.specs.Dna.{acgt, dna_code}
use Rattle.block.specs.Format.{Format, Options, dna_options, all_valid, all_differ, signs, good_symbols}
use Rattle.block.specs.declared.data.DataType.{DataType}
use Rattle.lexer.proofs.Basics.{and_left, and_right, by-test}
use Rattle.lexer.specs.Base.{same, lower}
use lib.Dec.{eqb, leb}
use lib.ListN.{length}
use mathlib.Core.Bool.{true, false, ◌&&◌, ◌||◌, not}
use mathlib.Core.Option.{get_or}
use mathlib.Core.Path.{◌≡◌, sym}
use native.Mathlib.Omega.{arith}

-- What DNA does not take
module _ (o : Options) (f : Format) (t : DataType) where
  pub standard-options : t ≡ DataType.Standard → true ≡ dna_options t o f
  unfolding dna_options
  standard-options e = rw e

  pub dna-allowed : t ≡ DataType.Dna
      → not f.respect_case && same (get_or o.symbols acgt) acgt && (not (dna_code f.missing) || eqb (lower f.missing) 110) && not (dna_code (get_or f.gap 45)) ≡ dna_options t o f
  unfolding dna_options
  dna-allowed e = rw e

module _ (o : Options) (g : Format) where
  few-symbols : good_symbols o g ≡ true → length g.symbols ≤ 74
  unfolding good_symbols
  few-symbols h =
      let allowed = dna_options g.data_type o g && leb 2 (length g.symbols) in
      let valid = and_right allowed (all_valid g.symbols) (and_left (allowed && all_valid g.symbols) (all_differ g (signs g g.gap)) h) in
      let differ = and_right (allowed && all_valid g.symbols) (all_differ g (signs g g.gap)) h in
      at-most-74 g.symbols valid (states-distinct g g.gap differ)

  pub too-many : 74 < length g.symbols → false ≡ good_symbols o g
  too-many h = by-test (good_symbols o g) (λ t. absurd (omega (arith, few-symbols t))) sym

  pub all-good : (f : Format) → f ≡ g → dna_options f.data_type o f && leb 2 (length f.symbols) && all_valid f.symbols && all_differ f (signs f f.gap) ≡ good_symbols o g
  unfolding good_symbols
  all-good f e = rw e
