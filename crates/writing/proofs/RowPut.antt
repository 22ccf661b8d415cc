-- The cells of a row, put one behind another: what is left of them, and whatever puts that makes all of them put. Assumes nothing.
use Prim.Native.Nat.{ℕ, ◌+◌, ◌≤◌}
use Rattle.block.specs.Cell.{Cell}
use Rattle.block.specs.Sound.{sound_cell, sound_cells}
use Rattle.block.specs.declared.data.DataType.{DataType}
use Rattle.emit.proofs.PutLaws.{puts-as, puts_then}
use Rattle.emit.specs.Puts.{Puts}
use Rattle.naming.proofs.RowLaws.{drop-behind}
use Rattle.lexer.proofs.Basics.{and_left, and_right}
use Rattle.record.specs.Form.{form_cell, form_cells}
use Rattle.record.specs.Spell.{spell_cell, spell_cells}
use Rattle.writing.proofs.CellPut.{short-cell}
use Rattle.writing.proofs.MembersPut.{none-behind}
use Rattle.writing.proofs.SignsRead.{front-byte, front_rest}
use Rattle.writing.specs.CellsPut.{CellPut, CellsPut, RowHere, RunPut, ShortRead, TextPut}
use Rattle.writing.specs.Signs.{Signed}
use Rattle.writing.specs.declared.Putting.{Putting}
use lib.ListN.{length, get_or, drop, length-append}
use mathlib.Core.Bool.{true}
use mathlib.Core.List.{List, [], ◌∷◌, ◌++◌, append_assoc}
use mathlib.Core.Path.{◌≡◌, refl, ap, ◌∙◌}
use native.Mathlib.Omega.{arith}

-- All cells are left at the start.
pub run-start : (b signs : List ℕ) (from : ℕ) (before : List ℕ) (n : ℕ) → RunPut b signs from before n before (record { at = from; n = n })
run-start b signs from before n t symbols g cs rest row = record { left = cs; row = row; ahead = refl; back = λ last next p. p }

-- Some are put, and then more.
pub run-then : (b signs : List ℕ) (from : ℕ) {before buffer after : List ℕ} {n : ℕ} {p q : Putting} → RunPut b signs from before n buffer p
    → RunPut b signs p.at buffer p.n after q → RunPut b signs from before n after q
run-then b signs from f h t symbols g cs rest row =
    let l = f t symbols g cs rest row in
    let k = h t symbols g l.left rest l.row in
    record { left = k.left; row = k.row; ahead = k.ahead ∙ l.ahead; back = λ last next p. l.back last next (k.back last next p) }

-- The parts of a row with one cell, and with more.
module _ (b : List ℕ) (count at : ℕ) (c : Cell) (rest : List ℕ) where
  row_one : RowHere b count at (c ∷ []) rest → drop at b ≡ spell_cell c ++ (10 ∷ rest)
  unfolding spell_cells
  row_one row = row.here

  row_more : (d : Cell) (ds : List Cell) → RowHere b count at (c ∷ d ∷ ds) rest → drop at b ≡ spell_cell c ++ (32 ∷ (spell_cells (d ∷ ds) ++ (10 ∷ rest)))
  unfolding spell_cells
  row_more d ds row = row.here ∙ append_assoc (spell_cell c) (32 ∷ spell_cells (d ∷ ds)) (10 ∷ rest)

  row_first : (ds : List Cell) → RowHere b count at (c ∷ ds) rest → sound_cell count c ≡ true
  unfolding sound_cells
  row_first ds row = and_left (sound_cell count c) (sound_cells count ds) row.sound

  -- Behind the first cell and a blank stand the others.
  row-behind : (d : Cell) (ds : List Cell) (to : ℕ) → RowHere b count at (c ∷ d ∷ ds) rest → to ≡ at + length (spell_cell c) → RowHere b count (to + 1) (d ∷ ds) rest
  unfolding sound_cells
  row-behind d ds to row e =
      record {
        some = omega arith;
        sound = and_right (sound_cell count c) (sound_cells count (d ∷ ds)) row.sound;
        here = rw e (front_rest b (at + length (spell_cell c)) 32 (spell_cells (d ∷ ds) ++ (10 ∷ rest)) (drop-behind b at (spell_cell c) (32 ∷ (spell_cells (d ∷ ds) ++ (10 ∷ rest))) (row_more d ds row)));
      }

-- How long the spelled cells are: the first, a blank, the others.
size-more : (c d : Cell) (ds : List Cell) → length (spell_cells (c ∷ d ∷ ds)) ≡ length (spell_cell c) + 1 + length (spell_cells (d ∷ ds))
unfolding spell_cells
size-more c d ds = length-append (spell_cell c) (32 ∷ spell_cells (d ∷ ds)) ∙ omega arith

-- A cell of one byte and a blank are passed, and its sign is put.
pub run_short : (b signs : List ℕ) (at s : ℕ) (before : List ℕ) (n : ℕ) (after : List ℕ) (next : ℕ) → ShortRead b signs at s → (s ≡ 0 → ⊥) → Puts before n (λ behind. s ∷ behind) after next
    → RunPut b signs at before n after (record { at = at + 2; n = next })
unfolding form_cells
run_short b signs at s before n after next read some p t symbols g [] rest row = absurd (omega (arith, row.some))
run_short b signs at s before n after next read some p t symbols g (c ∷ []) rest row =
    let k = short-cell b signs at s read some t symbols g c 10 rest (row_first b (length symbols) at c rest [] row) (row_one b (length symbols) at c rest row) in
    absurd (omega (arith, k.blank))
run_short b signs at s before n after next read some p t symbols g (c ∷ d ∷ ds) rest row =
    let k = short-cell b signs at s read some t symbols g c 32 (spell_cells (d ∷ ds) ++ (10 ∷ rest)) (row_first b (length symbols) at c rest (d ∷ ds) row) (row_more b (length symbols) at c rest d ds row) in
    let two : at + 1 + 1 ≡ at + 2 = omega arith in
    record {
      left = d ∷ ds;
      row = rw two at (row-behind b (length symbols) at c rest d ds (at + 1) row (omega (arith, k.size)));
      ahead = omega (arith, size-more c d ds, k.size);
      back = λ last next q. puts-as (puts_then p q) (λ behind. k.form (form_cells t symbols (d ∷ ds) behind));
    }

-- Some cells are put, and then all others.
pub run-all : (b signs : List ℕ) (from : ℕ) {before buffer after : List ℕ} {n : ℕ} {p q : Putting} → RunPut b signs from before n buffer p
    → CellsPut b signs p.at buffer p.n after q → CellsPut b signs from before n after q
run-all b signs from {after = after} {q = q} f h t symbols g cs rest row =
    let l = f t symbols g cs rest row in
    let k = h t symbols g l.left rest l.row in
    record { next = k.next ∙ ap (λ i. i + 1) l.ahead; put = l.back after q.n k.put }

module _ (b signs : List ℕ) (at : ℕ) (before : List ℕ) (n : ℕ) (after : List ℕ) (cell : Putting) (p : CellPut b signs at before n after cell) where
  -- A cell was put: behind it stands the LF if it is the last, else a blank.
  last-cell : {t : DataType} {symbols : List ℕ} → Signed t symbols signs → (c : Cell) (rest : List ℕ) → RowHere b (length symbols) at (c ∷ []) rest
      → TextPut at (spell_cell c) before n (form_cell t symbols c) after cell × (drop cell.at b ≡ 10 ∷ rest)
  last-cell {t} {symbols} g c rest row =
      let e = row_one b (length symbols) at c rest row in
      let q = p t symbols g c 10 rest (omega arith) (row_first b (length symbols) at c rest [] row) e in
      (q, rw q.next (drop-behind b at (spell_cell c) (10 ∷ rest) e))

  next-cell : {t : DataType} {symbols : List ℕ} → Signed t symbols signs → (c d : Cell) (ds : List Cell) (rest : List ℕ) → RowHere b (length symbols) at (c ∷ d ∷ ds) rest
      → TextPut at (spell_cell c) before n (form_cell t symbols c) after cell × (drop cell.at b ≡ 32 ∷ (spell_cells (d ∷ ds) ++ (10 ∷ rest)))
  next-cell {t} {symbols} g c d ds rest row =
      let e = row_more b (length symbols) at c rest d ds row in
      let q = p t symbols g c 32 (spell_cells (d ∷ ds) ++ (10 ∷ rest)) (omega arith) (row_first b (length symbols) at c rest (d ∷ ds) row) e in
      (q, rw q.next (drop-behind b at (spell_cell c) (32 ∷ (spell_cells (d ∷ ds) ++ (10 ∷ rest))) e))

  -- Behind a blank the others are left.
  pub cells-turn : get_or b cell.at 0 ≡ 32 → RunPut b signs at before n after (record { at = cell.at + 1; n = cell.n })
  unfolding form_cells
  cells-turn blank t symbols g [] rest row = absurd (omega (arith, row.some))
  cells-turn blank t symbols g (c ∷ []) rest row = absurd (omega (arith, blank, front-byte b cell.at 10 rest (last-cell g c rest row).1))
  cells-turn blank t symbols g (c ∷ d ∷ ds) rest row =
      let q = (next-cell g c d ds rest row).0 in
      record {
        left = d ∷ ds;
        row = row-behind b (length symbols) at c rest d ds cell.at row q.next;
        ahead = omega (arith, size-more c d ds, q.next);
        back = λ last next r. puts_then q.put r;
      }

  -- Where no blank stands, all are put.
  pub cells-end : (get_or b cell.at 0 ≡ 32 → ⊥) → CellsPut b signs at before n after (record { at = cell.at + 1; n = cell.n })
  unfolding form_cells spell_cells
  cells-end other t symbols g [] rest row = absurd (omega (arith, row.some))
  cells-end other t symbols g (c ∷ []) rest row = let q = (last-cell g c rest row).0 in record { next = ap (λ i. i + 1) q.next; put = q.put }
  cells-end other t symbols g (c ∷ d ∷ ds) rest row = absurd (other (front-byte b cell.at 32 (spell_cells (d ∷ ds) ++ (10 ∷ rest)) (next-cell g c d ds rest row).1))

  -- Behind the end stands neither.
  pub cells-none : {r : Putting} → length b ≤ cell.at → CellsPut b signs at before n after r
  cells-none h t symbols g [] rest row = absurd (omega (arith, row.some))
  cells-none h t symbols g (c ∷ []) rest row = none-behind b cell.at 10 [] rest h (last-cell g c rest row).1
  cells-none h t symbols g (c ∷ d ∷ ds) rest row = none-behind b cell.at 32 [] (spell_cells (d ∷ ds) ++ (10 ∷ rest)) h (next-cell g c d ds rest row).1
