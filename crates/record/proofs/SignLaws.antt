-- Each sign of a written form is the cell that it was written for. Assumes nothing.
use Prim.Native.Nat.{ℕ, zero, suc, ◌+◌, ◌<◌}
use Rattle.block.specs.Cell.{state, missing, gap}
use Rattle.block.specs.Chunk.{cell, gap_or, state_or_code, state_cell, state_of, find_symbol}
use Rattle.block.specs.Dna.{acgt}
use Rattle.block.specs.Format.{Format}
use Rattle.block.specs.Run.{run_text}
use Rattle.block.specs.declared.data.DataType.{DataType}
use Rattle.lexer.proofs.Basics.{and_left, and_right, or_left, or_right, by-test, eqb_same, eqb-sym, same_true}
use Rattle.lexer.specs.Base.{pick, among}
use Rattle.record.proofs.FormatRead.{form_of, gap_of, equal-eqb}
use Rattle.block.proofs.Pigeonhole.{among-differ}
use Rattle.record.proofs.SymbolLaws.{missing-free, gap-free, symbols-distinct}
use Rattle.record.specs.Form.{missing_sign, gap_sign, sign}
use Rattle.block.specs.Sound.{distinct, sound_symbols}
use borrow.Author.Tests.{not-true}
use lib.Dec.{eqb}
use lib.ListN.{length, get_or}
use mathlib.Core.Bool.{Bool, true, false, not, false≢true}
use mathlib.Core.List.{List, [], ◌∷◌}
use mathlib.Core.Option.{some}
use mathlib.Core.Path.{◌≡◌, refl, ap}
use native.Mathlib.Nat.{zero-add}
use native.Mathlib.Omega.{arith}

-- The signs of a format are read as what they stand for; the gap's only where a gap occurs.
pub record Signs (f : Format) (t : DataType) (symbols : List ℕ) (gaps : Bool) : Type 0 where
  pub states : (i : ℕ) → i < length symbols → cell f (sign symbols i) ≡ some (state i)
  pub missings : cell f (missing_sign t symbols) ≡ some missing
  pub gaps-too : gaps ≡ true → cell f (gap_sign t symbols) ≡ some gap

getD-among : (l : List ℕ) (i : ℕ) → i < length l → among (get_or l i 0) l ≡ true
unfolding among
getD-among [] i h = absurd (omega arith)
getD-among (a ∷ l) zero h = rw eqb_same refl
getD-among (a ∷ l) (suc i) h = by-test (eqb (get_or l i 0) a) (λ t. rw t refl) (λ f. rw f (getD-among l i (omega arith)))

find-sign : (f : Format) → f.respect_case ≡ true → (symbols : List ℕ) (k i : ℕ) → distinct symbols ≡ true → i < length symbols
    → find_symbol f (get_or symbols i 0) k symbols ≡ some (k + i)
unfolding find_symbol distinct pick
find-sign f c [] k i d h = absurd (omega arith)
find-sign f c (s ∷ r) k zero d h = rw (equal-eqb f c s s, eqb_same s) (ap some (omega arith))
find-sign f c (s ∷ r) k (suc i) d h =
    let new : among s r ≡ false = not-true (among s r) (and_left (not (among s r)) (distinct r) d) in
    rw (equal-eqb f c s (get_or r i 0), eqb-sym s (get_or r i 0), among-differ s (get_or r i 0) r new (getD-among r i (omega arith)), find-sign f c r (suc k) i (and_right (not (among s r)) (distinct r) d) (omega arith))
    (ap some (omega arith))

-- STANDARD: missing and gap are no states, and are tried first.
past-gap : (symbols : List ℕ) (gaps : Bool) → sound_symbols DataType.Standard symbols gaps ≡ true → (b : ℕ) → among b symbols ≡ true
    → gap_or (form_of DataType.Standard symbols gaps) (gap_of (gap_sign DataType.Standard symbols) gaps) b ≡ state_cell (state_of (form_of DataType.Standard symbols gaps) b)
unfolding gap_or gap_of state_or_code form_of pick among
past-gap symbols false s b h = refl
past-gap symbols true s b h =
    let g : ℕ = gap_sign DataType.Standard symbols in
    let new : among g symbols ≡ false = or_right (eqb g (missing_sign DataType.Standard symbols)) (among g symbols) (gap-free symbols s) in
    rw (equal-eqb (form_of DataType.Standard symbols true) refl g b, eqb-sym g b, among-differ g b symbols new h) refl

state-standard : (symbols : List ℕ) (gaps : Bool) → sound_symbols DataType.Standard symbols gaps ≡ true → (i : ℕ) → i < length symbols
    → cell (form_of DataType.Standard symbols gaps) (sign symbols i) ≡ some (state i)
unfolding cell form_of pick state_of state_cell sign
state-standard symbols gaps s i h =
    let f : Format = form_of DataType.Standard symbols gaps in
    let m : ℕ = missing_sign DataType.Standard symbols in
    let b : ℕ = get_or symbols i 0 in
    let there : among b symbols ≡ true = getD-among symbols i h in
    rw (equal-eqb f refl m b, eqb-sym m b, among-differ m b symbols (missing-free symbols gaps s) there, past-gap symbols gaps s b there, find-sign f refl symbols 0 i (symbols-distinct symbols gaps s) h, zero-add i) refl

missing-standard : (symbols : List ℕ) (gaps : Bool) → cell (form_of DataType.Standard symbols gaps) (missing_sign DataType.Standard symbols) ≡ some missing
unfolding cell form_of pick
missing-standard symbols gaps =
    let m : ℕ = missing_sign DataType.Standard symbols in
    rw (equal-eqb (form_of DataType.Standard symbols gaps) refl m m, eqb_same m) refl

gap-standard : (symbols : List ℕ) (gaps : Bool) → sound_symbols DataType.Standard symbols gaps ≡ true → gaps ≡ true
    → cell (form_of DataType.Standard symbols gaps) (gap_sign DataType.Standard symbols) ≡ some gap
unfolding cell gap_or gap_of form_of pick among
gap-standard symbols false s e = absurd (false≢true e)
gap-standard symbols true s e =
    let f : Format = form_of DataType.Standard symbols true in
    let m : ℕ = missing_sign DataType.Standard symbols in
    let g : ℕ = gap_sign DataType.Standard symbols in
    rw (equal-eqb f refl m g, eqb-sym m g, or_left (eqb g m) (among g symbols) (gap-free symbols s), equal-eqb f refl g g, eqb_same g) refl

-- DNA
state-dna : (gaps : Bool) (i : ℕ) → i < length acgt → cell (form_of DataType.Dna acgt gaps) (sign acgt i) ≡ some (state i)
unfolding run_text form_of sign
state-dna gaps zero h = refl
state-dna gaps (suc zero) h = refl
state-dna gaps (suc (suc zero)) h = refl
state-dna gaps (suc (suc (suc zero))) h = refl
state-dna gaps (suc (suc (suc (suc i)))) h = absurd (omega arith)

signs-dna : (gaps : Bool) → Signs (form_of DataType.Dna acgt gaps) DataType.Dna acgt gaps
unfolding run_text form_of missing_sign gap_sign
signs-dna gaps = record { states = state-dna gaps; missings = refl; gaps-too = λ e. refl }

pub form-signs : (t : DataType) (symbols : List ℕ) (gaps : Bool) → sound_symbols t symbols gaps ≡ true → Signs (form_of t symbols gaps) t symbols gaps
unfolding sound_symbols
form-signs DataType.Standard symbols gaps s = record { states = state-standard symbols gaps s; missings = missing-standard symbols gaps; gaps-too = gap-standard symbols gaps s }
form-signs DataType.Dna symbols gaps s = rw (same_true symbols acgt s) (signs-dna gaps)
