-- How many bytes the cells of a reading can take. Assumes nothing.
use Prim.Native.Nat.{ℕ, suc, ◌+◌, ◌*◌, ◌^◌, ◌≤◌, ◌<◌}
use Rattle.block.proofs.RisingLaws.{rising-first, rising-head, rising-rest}
use Rattle.block.specs.Cell.{Cell, state, uncertain, polymorphic, missing, gap}
use Rattle.block.specs.Interleaved.{all_long}
use Rattle.block.specs.Reading.{Taxon}
use Rattle.block.specs.Sequential.{names}
use Rattle.block.specs.Sound.{rising, sound_cell, sound_cells, sound_rows, sound_set}
use Rattle.emit.proofs.DigitsStored.{digits-most}
use Rattle.lexer.proofs.Basics.{and_left, and_right, by-test}
use Rattle.lexer.specs.Base.{byte, bytes, is_empty, pick}
use Rattle.reading.specs.RecordSizes.{widest}
use Rattle.record.specs.Decimal.{decimal}
use Rattle.record.specs.Spell.{dotted, escaped, line, spell_cell, spell_cells, spell_taxa}
use Prim.Native.String.{String}
use borrow.Author.Tests.{eqb-true, leb-true, ltb-true}
use lib.Dec.{eqb, leb}
use lib.ListN.{length, length-append}
use mathlib.Core.Bool.{true, false, false≢true}
use mathlib.Core.List.{List, [], ◌∷◌, ◌++◌}
use mathlib.Core.Path.{◌≡◌, ap, subst, ◌∙◌}
use native.Mathlib.Nat.{mul-le-mul_right, suc-mul}
use native.Mathlib.Omega.{arith}

-- A set has no more indices than there are symbols from its first one on.
rising-few : (count i : ℕ) (r : List ℕ) → rising count (i ∷ r) ≡ true → i + length (i ∷ r) ≤ count
rising-few count i [] h = let first = rising-first count i [] h in omega arith
rising-few count i (j ∷ r) h =
    let more = rising-few count j r (rising-rest count i (j ∷ r) h) in
    let less = rising-head count i j r h in
    omega arith

-- Where each index below a count has at most so many digits, and one more byte beside it, a dot or a blank.
module _ (count k : ℕ) (short : count ≤ 10 ^ (k + 1)) where
  number_short : (i : ℕ) → i < count → length (decimal i) ≤ k + 1
  number_short i below = digits-most k i (omega arith)

  dotted-short : (i : ℕ) (r : List ℕ) → rising count (i ∷ r) ≡ true → length (dotted (i ∷ r)) + 1 ≤ length (i ∷ r) * (k + 2)
  unfolding dotted
  dotted-short i [] h = let one = number_short i (rising-first count i [] h) in omega (arith, suc-mul 0 (k + 2))
  dotted-short i (j ∷ r) h =
      let more = dotted-short j r (rising-rest count i (j ∷ r) h) in
      let one = number_short i (rising-first count i (j ∷ r) h) in
      let both = length-append (decimal i) (byte "." ∷ dotted (j ∷ r)) in
      omega (arith, suc-mul (length (j ∷ r)) (k + 2))

  set-short : (s : List ℕ) → sound_set count s ≡ true → length (dotted s) + 1 ≤ count * (k + 2)
  unfolding sound_set is_empty
  set-short [] h = absurd (false≢true (and_left false (rising count []) h))
  set-short (i ∷ r) h =
      let rises = and_right true (rising count (i ∷ r)) h in
      let all = dotted-short i r rises in
      let few = rising-few count i r rises in
      let most : length (i ∷ r) * (k + 2) ≤ count * (k + 2) = mul-le-mul_right (k + 2) (omega arith) in
      omega arith

  cell-short : (c : Cell) → sound_cell count c ≡ true → length (spell_cell c) + 1 ≤ count * (k + 2) + 2
  unfolding sound_cell spell_cell
  cell-short (state i) h =
      let below = ltb-true i count h in
      let one = number_short i below in
      let some : 1 * (k + 2) ≤ count * (k + 2) = mul-le-mul_right (k + 2) (omega arith) in
      omega (arith, suc-mul 0 (k + 2))
  cell-short (uncertain s) h = let all = set-short s h in omega arith
  cell-short (polymorphic s) h = let all = set-short s h in omega arith
  cell-short missing h = omega arith
  cell-short gap h = omega arith

-- No cell takes more than the widest, its blank included.
cell-widest : (count : ℕ) → count ≤ 74 → (c : Cell) → sound_cell count c ≡ true → length (spell_cell c) + 1 ≤ widest count
unfolding widest pick
cell-widest count most c h =
    by-test (leb count 10)
    (λ t. rw t (let s = cell-short count 0 (omega (arith, leb-true count 10 t)) c h in omega arith))
    (λ f. rw f (let s = cell-short count 1 (omega arith) c h in omega arith))

cells-widest : (count : ℕ) → count ≤ 74 → (cs : List Cell) → sound_cells count cs ≡ true → length (spell_cells cs) ≤ length cs * widest count
unfolding sound_cells spell_cells
cells-widest count most [] h = omega arith
cells-widest count most (c ∷ []) h =
    let one = cell-widest count most c (and_left (sound_cell count c) true h) in
    omega (arith, suc-mul 0 (widest count))
cells-widest count most (c ∷ d ∷ r) h =
    let one = cell-widest count most c (and_left (sound_cell count c) (sound_cells count (d ∷ r)) h) in
    let more = cells-widest count most (d ∷ r) (and_right (sound_cell count c) (sound_cells count (d ∷ r)) h) in
    let both = length-append (spell_cell c) (byte " " ∷ spell_cells (d ∷ r)) in
    omega (arith, suc-mul (length (d ∷ r)) (widest count))

length-line : (key : String) (value behind : List ℕ) → length (line key value behind) ≡ length (bytes key) + (length value + suc (length behind))
unfolding line
length-line key value behind =
    length-append (bytes key) (value ++ (byte "\n" ∷ behind)) ∙ ap (λ n. length (bytes key) + n) (length-append value (byte "\n" ∷ behind))

-- Lines in front of longer ones.
pub line-longer : (key : String) (value a b : List ℕ) (d : ℕ) → length a ≤ length b + d → length (line key value a) ≤ length (line key value b) + d
line-longer key value a b d h =
    omega (arith, length-line key value a, length-line key value b)

-- A line is longer by as much as its value is.
value-longer : (key : String) (v w a b : List ℕ) (d e : ℕ) → length v ≤ length w + d → length a ≤ length b + e → length (line key v a) ≤ length (line key w b) + (d + e)
value-longer key v w a b d e h k =
    omega (arith, length-line key v a, length-line key w b)

-- A row of the same name is longer by its cells, and by what stands behind it.
row-longer : (name : List ℕ) (cs ds : List Cell) (a b : List ℕ) (d e : ℕ) → length (spell_cells cs) ≤ d → length a ≤ length b + e
    → length (line "name=" (escaped name) (line "cells=" (spell_cells cs) a)) ≤ length (line "name=" (escaped name) (line "cells=" (spell_cells ds) b)) + (d + e)
row-longer name cs ds a b d e h k =
    line-longer "name=" (escaped name) (line "cells=" (spell_cells cs) a) (line "cells=" (spell_cells ds) b) (d + e)
    (value-longer "cells=" (spell_cells cs) (spell_cells ds) a b d e (omega arith) k)

-- Taxa of the same names are longer by no more than their cells, of which each has so many.
module _ (count characters : ℕ) (most : count ≤ 74) (behind : List ℕ) where
  pub taxa-longer : (xs ys : List Taxon) → names xs ≡ names ys → sound_rows count xs ≡ true → all_long characters xs ≡ true
      → length (spell_taxa xs behind) ≤ length (spell_taxa ys behind) + length xs * (characters * widest count)
  unfolding spell_taxa names sound_rows all_long
  taxa-longer [] [] e s l = omega arith
  taxa-longer [] (y ∷ ys) e s l = absurd (let z : ◌≡◌ {A = ℕ} 0 1 = cc in omega arith)
  taxa-longer (x ∷ xs) [] e s l = absurd (let z : ◌≡◌ {A = ℕ} 0 1 = cc in omega arith)
  taxa-longer (x ∷ xs) (y ∷ ys) e s l =
      let name : x.name ≡ y.name = cc in
      let others : names xs ≡ names ys = cc in
      let more = taxa-longer xs ys others (and_right (sound_cells count x.cells) (sound_rows count xs) s) (and_right (eqb (length x.cells) characters) (all_long characters xs) l) in
      let cells = cells-widest count most x.cells (and_left (sound_cells count x.cells) (sound_rows count xs) s) in
      let long = eqb-true (length x.cells) characters (and_left (eqb (length x.cells) characters) (all_long characters xs) l) in
      let row : length (spell_cells x.cells) ≤ characters * widest count = rw (← long) cells in
      let w = characters * widest count in
      let all = row-longer y.name x.cells y.cells (spell_taxa xs behind) (spell_taxa ys behind) w (length xs * w) (omega arith) more in
      let more_cells : w + length xs * w ≡ suc (length xs) * w = omega (arith, suc-mul (length xs) w) in
      rw name (subst (λ n. length (line "name=" (escaped y.name) (line "cells=" (spell_cells x.cells) (spell_taxa xs behind))) ≤ length (line "name=" (escaped y.name) (line "cells=" (spell_cells y.cells) (spell_taxa ys behind))) + n) more_cells all)
