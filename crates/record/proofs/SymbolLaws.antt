-- The signs that the written form gives to missing cells and gaps are valid symbols, and no states. Assumes nothing.
use Prim.Native.Nat.{ℕ, ◌≤◌, ◌<◌}
use Rattle.block.specs.Format.{valid_symbol, valid_symbols, all_valid}
use Rattle.block.specs.Run.{run_text}
use Rattle.block.specs.declared.data.DataType.{DataType}
use Rattle.lexer.proofs.Basics.{and_left, and_right, by-test, all-four}
use Rattle.lexer.specs.Base.{pick, among}
use Rattle.block.proofs.Pigeonhole.{pigeonhole}
use Rattle.record.specs.Form.{first_free, missing_sign, gap_sign}
use Rattle.block.specs.Sound.{distinct, most_symbols, sound_symbols}
use borrow.Author.Tests.{eqb-true, leb-true}
use lib.Dec.{eqb, leb, lit≤}
use lib.ListN.{length}
use mathlib.Core.Bool.{Bool, true, false, ◌&&◌, false≢true}
use mathlib.Core.List.{List, [], ◌∷◌}
use mathlib.Core.Path.{◌≡◌, refl, sym}
use native.Mathlib.Omega.{arith}

-- Are all of these taken?
all_taken : List ℕ → List ℕ → Bool
all_taken taken [] = true
all_taken taken (s ∷ r) = let more = all_taken taken r in among s taken && more

taken-among : (taken cs : List ℕ) → all_taken taken cs ≡ true → (b : ℕ) → among b cs ≡ true → among b taken ≡ true
unfolding all_taken among
taken-among taken [] t b h = absurd (false≢true h)
taken-among taken (s ∷ r) t b h =
    by-test (eqb b s)
    (λ e. rw (eqb-true b s e) (and_left (among s taken) (all_taken taken r) t))
    (λ f. taken-among taken r (and_right (among s taken) (all_taken taken r) t) b (rw f at h))

-- Fewer numbers than there are candidates do not take them all.
some-free : (taken cs : List ℕ) → distinct cs ≡ true → length taken < length cs → all_taken taken cs ≡ false
some-free taken cs d l =
    by-test (all_taken taken cs) (λ t. let few : length cs ≤ length taken = pigeonhole cs taken d (taken-among taken cs t) in absurd (omega arith)) (λ f. f)

free-free : (taken cs : List ℕ) → all_taken taken cs ≡ false → among (first_free taken cs) taken ≡ false
unfolding all_taken first_free pick
free-free taken [] h = absurd (false≢true (sym h))
free-free taken (s ∷ r) h =
    by-test (among s taken) (λ t. rw t (free-free taken r (rw t at h))) (λ f. rw f f)

free-valid : (taken cs : List ℕ) → all_valid cs ≡ true → all_taken taken cs ≡ false → valid_symbol (first_free taken cs) ≡ true
unfolding all_taken first_free all_valid pick
free-valid taken [] v h = absurd (false≢true (sym h))
free-valid taken (s ∷ r) v h =
    by-test (among s taken)
    (λ t. rw t (free-valid taken r (and_right (valid_symbol s) (all_valid r) v) (rw t at h)))
    (λ f. rw f (and_left (valid_symbol s) (all_valid r) v))

valid-distinct : distinct valid_symbols ≡ true
unfolding run_text distinct valid_symbols
valid-distinct = refl

valid-valid : all_valid valid_symbols ≡ true
unfolding run_text valid_symbols
valid-valid = refl

valid-many : length valid_symbols ≡ 74
unfolding run_text valid_symbols
valid-many = refl

-- There is a free symbol beside up to 73 others.
free : (taken : List ℕ) → length taken ≤ 73 → all_taken taken valid_symbols ≡ false
free taken l = some-free taken valid_symbols valid-distinct (rw valid-many (omega arith))

-- What sound symbols of STANDARD are.
module _ (symbols : List ℕ) (gaps : Bool) (s : sound_symbols DataType.Standard symbols gaps ≡ true) where
  symbols-sound : (leb 2 (length symbols) ≡ true) × (leb (length symbols) (most_symbols gaps) ≡ true) × (all_valid symbols ≡ true) × (distinct symbols ≡ true)
  unfolding sound_symbols
  symbols-sound = all-four (leb 2 (length symbols)) (leb (length symbols) (most_symbols gaps)) (all_valid symbols) (distinct symbols) s

  pub symbols-two : leb 2 (length symbols) ≡ true
  symbols-two = symbols-sound.0

  symbols-most : length symbols ≤ most_symbols gaps
  symbols-most = leb-true (length symbols) (most_symbols gaps) symbols-sound.1

  pub symbols-valid : all_valid symbols ≡ true
  symbols-valid = symbols-sound.2

  pub symbols-distinct : distinct symbols ≡ true
  symbols-distinct = symbols-sound.3

most-few : (gaps : Bool) → most_symbols gaps ≤ 73
unfolding most_symbols
most-few true = lit≤ tt
most-few false = lit≤ tt

module _ (symbols : List ℕ) (gaps : Bool) (s : sound_symbols DataType.Standard symbols gaps ≡ true) where
  missing-untaken : all_taken symbols valid_symbols ≡ false
  missing-untaken = free symbols (omega (arith, symbols-most symbols gaps s, most-few gaps))

  pub missing-free : among (missing_sign DataType.Standard symbols) symbols ≡ false
  unfolding missing_sign
  missing-free = free-free symbols valid_symbols missing-untaken

module _ (symbols : List ℕ) (s : sound_symbols DataType.Standard symbols true ≡ true) where
  gap-untaken : all_taken (missing_sign DataType.Standard symbols ∷ symbols) valid_symbols ≡ false
  unfolding most_symbols
  gap-untaken = free (missing_sign DataType.Standard symbols ∷ symbols) (omega (arith, symbols-most symbols true s))

  pub gap-free : among (gap_sign DataType.Standard symbols) (missing_sign DataType.Standard symbols ∷ symbols) ≡ false
  unfolding gap_sign
  gap-free = free-free (missing_sign DataType.Standard symbols ∷ symbols) valid_symbols gap-untaken

pub missing-valid : (t : DataType) (symbols : List ℕ) (gaps : Bool) → sound_symbols t symbols gaps ≡ true
    → valid_symbol (missing_sign t symbols) ≡ true
unfolding missing_sign run_text
missing-valid DataType.Standard symbols gaps s = free-valid symbols valid_symbols valid-valid (missing-untaken symbols gaps s)
missing-valid DataType.Dna symbols gaps s = refl

pub gap-valid : (t : DataType) (symbols : List ℕ) → sound_symbols t symbols true ≡ true → valid_symbol (gap_sign t symbols) ≡ true
unfolding gap_sign run_text
gap-valid DataType.Standard symbols s = free-valid (missing_sign DataType.Standard symbols ∷ symbols) valid_symbols valid-valid (gap-untaken symbols s)
gap-valid DataType.Dna symbols s = refl
