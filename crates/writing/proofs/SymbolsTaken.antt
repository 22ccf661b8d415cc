-- The symbols of a record among its bytes, and the first byte that is none of them. Assumes nothing.
use Prim.Native.Nat.{ℕ, ◌+◌, ◌-◌, ◌<◌, ◌≤◌}
use Rattle.block.specs.Format.{valid_symbols}
use Rattle.block.specs.declared.data.DataType.{DataType}
use Rattle.judging.specs.declared.Shape.{Shape}
use Rattle.lexer.proofs.Basics.{by-test, eqb-sym, or-first, or-second, or_left, or_right}
use Rattle.lexer.proofs.ListLaws.{drop-next}
use Rattle.lexer.proofs.TableLaws.{Filled}
use Rattle.lexer.specs.Base.{among, bytes, pick}
use Rattle.record.specs.Form.{first_free, gap_sign, missing_sign, sign}
use Rattle.writing.specs.Signs.{Signed, SignsMade, sign_by, sign_of, symbols_at}
use Rattle.std.specs.List.{list_any}
use borrow.Author.Tests.{eq-eqb, ne_eqb, le-leb, lt-leb, leb-true}
use lib.Dec.{eqb, leb}
use lib.ListN.{length, drop, drop_of_length-le, get_or}
use mathlib.Core.Bool.{true, false}
use mathlib.Core.List.{List, [], ◌∷◌}
use mathlib.Core.Path.{◌≡◌, refl, sym, ap, ◌∙◌}
use native.Mathlib.Omega.{arith}

-- A slice's `contains` looks for a byte among its bytes.
pub among-contained : (x : ℕ) (l : List ℕ) → list_any (λ y. eqb y x) l ≡ among x l
unfolding among
among-contained x [] = refl
among-contained x (y ∷ l) = rw (eqb-sym y x, among-contained x l)

-- A byte is taken that is another one, or is contained in the symbols.
module _ (x other : ℕ) (l : List ℕ) where
  pub taken-other : x ≡ other → among x (other ∷ l) ≡ true
  unfolding among
  taken-other e = or-first _ (among x l) (eq-eqb x other e)

  pub taken-symbol : list_any (λ y. eqb y x) l ≡ true → among x (other ∷ l) ≡ true
  unfolding among
  taken-symbol t = or-second (eqb x other) _ (sym (among-contained x l) ∙ t)

  pub taken-none : (x ≡ other → ⊥) → list_any (λ y. eqb y x) l ≡ false → among x (other ∷ l) ≡ false
  unfolding among
  taken-none ne f = rw (ne_eqb x other ne) (sym (among-contained x l) ∙ f)

-- The first free byte is this one, or that of the others; none is free among none.
module _ (taken l : List ℕ) (i : ℕ) (h : i < length l) where
  pub free-found : among (get_or l i 0) taken ≡ false → get_or l i 0 ≡ first_free taken (drop i l)
  unfolding first_free pick
  free-found f = rw (drop-next l i h, f)

  pub free-next : among (get_or l i 0) taken ≡ true → first_free taken (drop (i + 1) l) ≡ first_free taken (drop i l)
  unfolding first_free pick
  free-next t = rw (drop-next l i h, t)

pub free-past : (taken l : List ℕ) (i : ℕ) → length l ≤ i → first_free taken (drop i l) ≡ 0
unfolding first_free
free-past taken l i h = rw (drop_of_length-le l h)

-- A byte that is none of those looked at may be taken.
free_other : (x : ℕ) (taken l : List ℕ) → among x l ≡ false → first_free (x ∷ taken) l ≡ first_free taken l
unfolding first_free among pick
free_other x taken [] h = refl
free_other x taken (s ∷ r) h = rw (eqb-sym s x, or_left (eqb x s) (among x r) h, free_other x taken r (or_right (eqb x s) (among x r) h))

-- So may 0.
free-zero : (taken : List ℕ) → first_free (0 ∷ taken) valid_symbols ≡ first_free taken valid_symbols
unfolding valid_symbols bytes among
free-zero taken = free_other 0 taken valid_symbols refl

-- The signs of missing and of a gap, by the type of the data.
module _ (t : DataType) (symbols : List ℕ) where
  pub missing-standard : {r : ℕ} → t ≡ DataType.Standard → r ≡ first_free (0 ∷ symbols) valid_symbols → r ≡ missing_sign t symbols
  unfolding missing_sign
  missing-standard e h = rw e (h ∙ free-zero symbols)

  pub missing-dna : t ≡ DataType.Dna → 63 ≡ missing_sign t symbols
  unfolding missing_sign
  missing-dna e = rw e

  pub gap-standard : {r m : ℕ} → t ≡ DataType.Standard → m ≡ missing_sign t symbols → r ≡ first_free (m ∷ symbols) valid_symbols → r ≡ gap_sign t symbols
  unfolding gap_sign
  gap-standard e f h = rw e (h ∙ ap (λ m. first_free (m ∷ symbols) valid_symbols) (f ∙ ap (λ t. missing_sign t symbols) e))

  pub gap-dna : t ≡ DataType.Dna → 45 ≡ gap_sign t symbols
  unfolding gap_sign
  gap-dna e = rw e

-- A table that is filled by these signs and the symbols holds the signs.
pub table-signed : (b : List ℕ) (s : Shape) (table : List ℕ) (missing gap i : ℕ) → Filled (sign_by missing gap (symbols_at b s)) 0 table i → 256 ≤ i
    → SignsMade b s missing gap → length (symbols_at b s) ≤ 74 → Signed s.data_type (symbols_at b s) table
unfolding sign_of
table-signed b s table missing gap i f h made few = record { few = few; each = λ k low. rw (made.of_missing, made.of_gap) at (f.entry k (omega arith)) }

-- The sign of a digit, of an index, and of a byte that is no cell.
module _ (missing gap : ℕ) (symbols : List ℕ) (b : ℕ) where
  pub digit-signed : 48 ≤ b → b ≤ 57 → sign symbols (b - 48) ≡ sign_by missing gap symbols b
  unfolding sign_by pick
  digit-signed low high = rw (le-leb 48 b low, le-leb b 57 high)

  pub index-signed : 128 ≤ b → sign symbols (b - 128) ≡ sign_by missing gap symbols b
  unfolding sign_by pick
  index-signed h =
      rw (le-leb 48 b (omega arith), lt-leb b 57 (omega arith), ne_eqb b 109 (λ e. omega arith), ne_eqb b 103 (λ e. omega arith), le-leb 128 b h)

  pub none-signed : (48 ≤ b → 57 < b) → (b ≡ 109 → ⊥) → (b ≡ 103 → ⊥) → b < 128 → 0 ≡ sign_by missing gap symbols b
  unfolding sign_by pick
  none-signed over m g h =
      by-test (leb 48 b)
      (λ t. rw (t, lt-leb b 57 (over (leb-true 48 b t)), ne_eqb b 109 m, ne_eqb b 103 g, lt-leb 128 b h))
      (λ f. rw (f, ne_eqb b 109 m, ne_eqb b 103 g, lt-leb 128 b h))
