-- Bytes that are run through to a mode in which a cell may end are sound cells: what the bytes behind each mode must be. Assumes nothing.
use Prim.Native.Nat.{ℕ, ◌+◌, ◌*◌, ◌-◌, ◌≤◌, ◌<◌}
use Rattle.block.proofs.RisingLaws.{rising-cons}
use Rattle.block.specs.Cell.{Cell, state, uncertain, polymorphic, missing, gap}
use Rattle.block.specs.Sound.{rising, sound_cell, sound_cells, sound_set}
use Rattle.judging.proofs.CellModeLaws.{run-wrong, step-blank, step-stuck, step-within}
use Rattle.emit.proofs.DecimalMade.{decimal-one, decimal-snoc}
use Rattle.judging.specs.CellModes.{begun, is_digit, ends, grown, run, step_fresh, step_index, step_opened, within}
use Rattle.judging.specs.declared.cells.Mode.{Mode}
use Rattle.lexer.proofs.Basics.{all-four, and_both, and_left, and_right, by-test}
use Rattle.lexer.specs.Base.{is_empty, pick}
use Rattle.record.specs.Decimal.{decimal}
use Rattle.record.specs.Spell.{dotted, spell_cell, spell_cells}
use borrow.Author.Tests.{eqb-false, eqb-true, leb-true, lt-ltb, ltb-true}
use lib.Dec.{eqb, leb, ltb}
use mathlib.Core.Bool.{Bool, true, false, false≢true, ◌&&◌, ◌||◌}
use mathlib.Core.List.{List, [], ◌∷◌, ◌++◌, append_assoc, append-nil}
use mathlib.Core.Path.{◌≡◌, refl, sym, subst, ◌∙◌}
use native.Mathlib.Omega.{arith}

-- A text is the decimal of an index.
record IndexRead (count : ℕ) (t : List ℕ) : Type 0 where
  index : ℕ
  below : index < count
  spelled : decimal index ≡ t

-- A text is indices joined by dots that rise from a least one on.
record SetRead (count low : ℕ) (t : List ℕ) : Type 0 where
  first : ℕ
  more : List ℕ
  least : low ≤ first
  rises : rising count (first ∷ more) ≡ true
  spelled : dotted (first ∷ more) ≡ t

-- A text is a cell.
record CellRead (count : ℕ) (t : List ℕ) : Type 0 where
  cell : Cell
  sound : sound_cell count cell ≡ true
  spelled : spell_cell cell ≡ t

-- A text is an index, or indices of a set.
abbrev NumberRead : ℕ → Bool → ℕ → List ℕ → Type 0
NumberRead count false low t = IndexRead count t
NumberRead count true low t = SetRead count low t

-- What the rest of the cell that is open must be, in each mode.
abbrev Fits : ℕ → Mode → List ℕ → Type 0
Fits count Mode.Fresh t = CellRead count t
Fits count Mode.Whole t = t ≡ []
Fits count (Mode.Opened low) t = SetRead count low t
Fits count (Mode.Index set low n) t = n < count → NumberRead count set low (decimal n ++ t)
Fits count Mode.Wrong t = ⊥

-- What holds of a choice holds of what was chosen, in each case.
module _ {X R : Type 0} (P : X → Type 0) where
  either : (t : Bool) (x y : X) → P (pick t x y) → (t ≡ true → P x → R) → (t ≡ false → P y → R) → R
  unfolding pick
  either true x y h p q = p refl h
  either false x y h p q = q refl h

module _ (count : ℕ) where
  -- An index that is at least so large may be the last.
  number-ends : (set : Bool) (low n : ℕ) → low ≤ n → n < count → NumberRead count set low (decimal n)
  unfolding rising dotted
  number-ends false low n l h = record { index = n; below = h; spelled = refl }
  number-ends true low n l h = record { first = n; more = []; least = l; rises = lt-ltb n count h; spelled = refl }

  -- Where a cell may end, its rest may be nothing.
  ends-fits : (m : Mode) → ends m ≡ true → Fits count m []
  unfolding ends
  ends-fits Mode.Fresh h = absurd (false≢true h)
  ends-fits Mode.Whole h = refl
  ends-fits (Mode.Opened low) h = absurd (false≢true h)
  ends-fits (Mode.Index set low n) h = λ small. rw (append-nil (decimal n)) (number-ends set low n (leb-true low n h) small)
  ends-fits Mode.Wrong h = absurd (false≢true h)

  module _ (b : ℕ) (t : List ℕ) where
    -- A digit's value is below 10, and its byte is so far above `0`.
    digit_value : is_digit b ≡ true → (b - 48 < 10) × (48 + (b - 48) ≡ b)
    unfolding is_digit
    digit_value d =
        let low : 48 ≤ b = leb-true 48 b (and_left _ (leb b 57) d) in
        let high : b ≤ 57 = leb-true b 57 (and_right (leb 48 b) _ d) in
        (omega arith, omega arith)

    -- Behind the first digit of an index stands the rest of the index.
    begun-fits : (set : Bool) (low : ℕ) → is_digit b ≡ true → Fits count (begun count set low b) t → NumberRead count set low (b ∷ t)
    unfolding begun
    begun-fits set low d h =
        let v = digit_value d in
        either (λ m. Fits count m t) (ltb (b - 48) count) _ _ h
        (λ small f.
        let e : decimal (b - 48) ≡ b ∷ [] = decimal-one (b - 48) v.0 ∙ rw v.1 in
        subst (λ x. NumberRead count set low (x ++ t)) e (f (ltb-true (b - 48) count small)))
        (λ big f. absurd f)

    -- Behind a further digit of an index stands the rest of the index.
    grown-fits : (set : Bool) (low n : ℕ) → is_digit b ≡ true → Fits count (grown count set low n b) t → NumberRead count set low (decimal n ++ (b ∷ t))
    unfolding grown
    grown-fits set low n d h =
        let v = digit_value d in
        let m = n * 10 + (b - 48) in
        either (λ k. Fits count k t) (eqb n 0) _ _ h (λ z f. absurd f)
        (λ some g.
        either (λ k. Fits count k t) (ltb m count) _ _ g
        (λ small f.
        let other = eqb-false n 0 some in
        let e : decimal m ≡ decimal n ++ (b ∷ []) = decimal-snoc n (b - 48) (omega (arith, other)) v.0 ∙ rw v.1 in
        rw (append_assoc (decimal n) (b ∷ []) t) at (subst (λ x. NumberRead count set low (x ++ t)) e (f (ltb-true m count small))))
        (λ big f. absurd f))

    -- Behind an index of a set and a dot stand the larger ones.
    dot-fits : (low n : ℕ) → low ≤ n → eqb b 46 ≡ true → SetRead count (n + 1) t → SetRead count low (decimal n ++ (b ∷ t))
    unfolding dotted
    dot-fits low n l e s =
        let f = s.spelled in
        record {
          first = n;
          more = s.first ∷ s.more;
          least = l;
          rises = rising-cons count n s.first s.more (omega (arith, s.least)) s.rises;
          spelled = rw (f, eqb-true b 46 e);
        }

    -- Behind a byte that is read within an index stands the rest of the index, or of the set.
    index-fits : (set : Bool) (low n : ℕ) → Fits count (step_index count set low n b) t → NumberRead count set low (decimal n ++ (b ∷ t))
    unfolding step_index
    index-fits set low n h =
        either (λ m. Fits count m t) (is_digit b) _ _ h (λ d f. grown-fits set low n d f)
        (λ o g.
        either (λ m. Fits count m t) (set && eqb b 46 && leb low n && ltb n count) _ _ g
        (λ q f.
        let a = all-four set (eqb b 46) (leb low n) (ltb n count) q in
        subst (λ x. NumberRead count x low (decimal n ++ (b ∷ t))) (sym a.0) (dot-fits low n (leb-true low n a.2) a.1 f))
        (λ q f. absurd f))

    -- An index is a cell; `u` or `p` and a set are one; `m` or `g` alone is one.
    state-fits : IndexRead count (b ∷ t) → CellRead count (b ∷ t)
    unfolding sound_cell spell_cell
    state-fits i = record { cell = state i.index; sound = lt-ltb i.index count i.below; spelled = i.spelled }

    set-fits : eqb b 117 || eqb b 112 ≡ true → SetRead count 0 t → CellRead count (b ∷ t)
    unfolding sound_cell sound_set is_empty spell_cell
    set-fits q s =
        let set = s.first ∷ s.more in
        let f = s.spelled in
        by-test (eqb b 117) (λ e. record { cell = uncertain set; sound = s.rises; spelled = rw (f, eqb-true b 117 e) })
        (λ o. record { cell = polymorphic set; sound = s.rises; spelled = rw (f, eqb-true b 112 (rw o at q)) })

    whole-fits : eqb b 109 || eqb b 103 ≡ true → t ≡ [] → CellRead count (b ∷ t)
    unfolding sound_cell spell_cell
    whole-fits q n =
        by-test (eqb b 109) (λ e. record { cell = missing; sound = refl; spelled = rw (n, eqb-true b 109 e) })
        (λ o. record { cell = gap; sound = refl; spelled = rw (n, eqb-true b 103 (rw o at q)) })

    -- Behind the first byte of a cell stands the rest of the cell.
    fresh-fits : Fits count (step_fresh count b) t → CellRead count (b ∷ t)
    unfolding step_fresh
    fresh-fits h =
        either (λ m. Fits count m t) (is_digit b) _ _ h (λ d f. state-fits (begun-fits false 0 d f))
        (λ o g.
        either (λ m. Fits count m t) (eqb b 117 || eqb b 112) _ _ g set-fits
        (λ p k. either (λ m. Fits count m t) (eqb b 109 || eqb b 103) _ _ k whole-fits (λ q f. absurd f)))

    -- What may stand behind a byte of a cell may stand there with the byte in front of it.
    within-fits : (m : Mode) → Fits count (within count m b) t → Fits count m (b ∷ t)
    unfolding within step_opened
    within-fits Mode.Fresh h = fresh-fits h
    within-fits Mode.Whole h = absurd h
    within-fits (Mode.Opened low) h = either (λ m. Fits count m t) (is_digit b) _ _ h (λ d f. begun-fits true low d f) (λ o f. absurd f)
    within-fits (Mode.Index set low n) h = λ small. index-fits set low n h
    within-fits Mode.Wrong h = absurd h

-- A blank and cells, where there are cells.
unfoldable more_cells : List Cell → List ℕ
more_cells [] = []
more_cells (c ∷ r) = 32 ∷ spell_cells (c ∷ r)

-- A row is its first cell, and a blank and the others where there are others.
more-spelled : (c : Cell) (r : List Cell) → spell_cells (c ∷ r) ≡ spell_cell c ++ more_cells r
unfolding spell_cells more_cells
more-spelled c [] = sym (append-nil (spell_cell c))
more-spelled c (d ∷ r) = refl

-- A text is the rest of the cell that is open, and more cells.
record RestRead (count : ℕ) (m : Mode) (t : List ℕ) : Type 0 where
  rest : List ℕ
  cells : List Cell
  fits : Fits count m rest
  sound : sound_cells count cells ≡ true
  here : rest ++ more_cells cells ≡ t

-- A text is cells.
pub record RowRead (count : ℕ) (t : List ℕ) : Type 0 where
  pub first : Cell
  pub more : List Cell
  pub sound : sound_cells count (first ∷ more) ≡ true
  pub spelled : spell_cells (first ∷ more) ≡ t

module _ (count : ℕ) where
  -- The rest of a row where a cell is to begin is a row.
  fresh-row : (t : List ℕ) → RestRead count Mode.Fresh t → RowRead count t
  unfolding sound_cells
  fresh-row t r =
      let c = r.fits in
      let e = c.spelled in
      record {
        first = c.cell;
        more = r.cells;
        sound = and_both c.sound r.sound;
        spelled = more-spelled c.cell r.cells ∙ rw e r.here;
      }

  -- Behind a cell, a blank and a row are the rest of a row.
  blank-rest : (m : Mode) (t : List ℕ) → ends m ≡ true → RowRead count t → RestRead count m (32 ∷ t)
  unfolding more_cells
  blank-rest m t h r =
      let e = r.spelled in
      record { rest = []; cells = r.first ∷ r.more; fits = ends-fits count m h; sound = r.sound; here = rw e }

  -- A byte of a cell and the rest of a row behind it are the rest of a row.
  within-rest : (m : Mode) (b : ℕ) (t : List ℕ) → RestRead count (within count m b) t → RestRead count m (b ∷ t)
  within-rest m b t r =
      let e = r.here in
      record { rest = b ∷ r.rest; cells = r.cells; fits = within-fits count b r.rest m r.fits; sound = r.sound; here = rw e }

  -- A run from a wrong mode comes to no place where a cell may end.
  wrong-ends : (t : List ℕ) → ends (run count Mode.Wrong t) ≡ false
  unfolding ends
  wrong-ends t = rw (run-wrong count t)

  -- What is run through to where a cell may end is the rest of a row.
  run-rest : (t : List ℕ) (m : Mode) → ends (run count m t) ≡ true → RestRead count m t
  unfolding run more_cells sound_cells
  run-rest [] m h = record { rest = []; cells = []; fits = ends-fits count m h; sound = refl; here = refl }
  run-rest (b ∷ t) m h =
      by-test (eqb b 32)
      (λ e.
      let blank : b ≡ 32 = eqb-true b 32 e in
      by-test (ends m)
      (λ y. rw blank (blank-rest m t y (fresh-row t (run-rest t Mode.Fresh (rw (blank, step-blank count m y) at h)))))
      (λ n. absurd (false≢true (sym (wrong-ends t) ∙ rw (blank, step-stuck count m n) at h))))
      (λ o. within-rest m b t (run-rest t (within count m b) (rw (step-within count m b o) at h)))

  -- The same where a row begins.
  pub row_read : (t : List ℕ) → ends (run count Mode.Fresh t) ≡ true → RowRead count t
  row_read t h = fresh-row t (run-rest t Mode.Fresh h)
