-- Rows that stand at a place: their first name, its cells, and the rows behind. Assumes nothing.
use Prim.Native.Nat.{ℕ, zero, suc, ◌+◌, ◌*◌, ◌-◌, ◌/◌, ◌≤◌, ◌<◌}
use Rattle.block.specs.Cell.{Cell, state, uncertain, polymorphic, missing, gap}
use Rattle.block.specs.Interleaved.{all_long}
use Rattle.block.specs.Reading.{Taxon}
use Rattle.lexer.proofs.Basics.{and_left, and_right, or_left, or_right, by-test}
use Rattle.lexer.specs.Base.{alike, among, bytes}
use Rattle.naming.proofs.EscapeLike.{line-name}
use Rattle.naming.proofs.LineLaws.{line-front}
use Rattle.naming.specs.Lines.{line_at}
use Rattle.naming.specs.Rows.{RowsStand, CellsBegin, CellsEnd, NameLike, RowPassed}
use Rattle.record.proofs.CellLaws.{cells-clean}
use Rattle.record.proofs.DecimalLaws.{decimal-some}
use Rattle.record.proofs.SpellLaws.{some-length}
use Rattle.record.specs.Decimal.{decimal}
use Rattle.record.specs.Lookup.{before_cells}
use Rattle.record.specs.Spell.{line, escaped, spell_cell, spell_cells, spell_taxa}
use borrow.Author.Tests.{eqb-true, eqb-false, ltb-true, ltb-false}
use lib.Dec.{eqb, ltb}
use lib.ListN.{length, drop, length-append, length-drop}
use lib.Seq.{drop-drop, drop-append_seam, drop-append-le}
use mathlib.Core.Bool.{Bool, true, false, ◌||◌}
use mathlib.Core.List.{List, [], ◌∷◌, ◌++◌, append_assoc}
use mathlib.Core.Path.{◌≡◌, refl, sym, ap, ◌∙◌}
use native.Mathlib.Omega.{arith}

-- Behind bytes that stand at a place stands the rest.
pub drop-behind : (b : List ℕ) (i : ℕ) (x rest : List ℕ) → drop i b ≡ x ++ rest → drop (i + length x) b ≡ rest
drop-behind b i x rest e = sym (drop-drop (length x) i b) ∙ ap (drop (length x)) e ∙ drop-append_seam x rest

-- Where a byte stands is before the end.
stands-before : (b : List ℕ) (i c : ℕ) (rest : List ℕ) → drop i b ≡ c ∷ rest → i < length b
stands-before b i c rest e = omega (arith, length-drop i b, ap length e)

-- A row that stands first: its name, its cells, and the rows behind it.
module _ (b : List ℕ) (at : ℕ) (t : Taxon) (ts : List Taxon) (rest : List ℕ) (here : drop at b ≡ spell_taxa (t ∷ ts) rest) where
  pub row_before : at < length b
  unfolding spell_taxa line bytes
  row_before = stands-before b at 110 _ here

  name-stands : drop (at + 5) b ≡ escaped t.name ++ (10 ∷ line "cells=" (spell_cells t.cells) (spell_taxa ts rest))
  unfolding spell_taxa line bytes
  name-stands = drop-behind b at (bytes "name=") _ here

  pub row-name : line_at b (at + 5) ≡ escaped t.name
  row-name = line-name b (at + 5) t.name _ name-stands

  before-length : at + before_cells t ≡ at + 5 + length (escaped t.name) + 7
  unfolding before_cells line bytes
  before-length = omega (arith, length-append (escaped t.name) (10 ∷ []))

  cells-stand : drop (at + before_cells t) b ≡ spell_cells t.cells ++ (10 ∷ spell_taxa ts rest)
  unfolding line bytes
  cells-stand =
      let front = escaped t.name ++ (10 ∷ bytes "cells=") in
      let more = spell_cells t.cells ++ (10 ∷ spell_taxa ts rest) in
      let split : drop (at + 5) b ≡ front ++ more = name-stands ∙ sym (append_assoc (escaped t.name) (10 ∷ bytes "cells=") more) in
      let place : at + 5 + length front ≡ at + before_cells t = omega (arith, length-append (escaped t.name) (10 ∷ bytes "cells="), before-length) in
      ap (λ n. drop n b) (sym place) ∙ drop-behind b (at + 5) front more split

  cells-ended : drop (at + before_cells t + length (spell_cells t.cells)) b ≡ 10 ∷ spell_taxa ts rest
  cells-ended = drop-behind b (at + before_cells t) (spell_cells t.cells) (10 ∷ spell_taxa ts rest) cells-stand

  pub cells-before : at + before_cells t + length (spell_cells t.cells) < length b
  cells-before = stands-before b (at + before_cells t + length (spell_cells t.cells)) 10 (spell_taxa ts rest) cells-ended

  rows-stand : drop (at + before_cells t + length (spell_cells t.cells) + 1) b ≡ spell_taxa ts rest
  rows-stand = drop-behind b (at + before_cells t + length (spell_cells t.cells)) (10 ∷ []) (spell_taxa ts rest) cells-ended

  -- Its name is like another where the line behind the key is.
  pub row-like : {p : ℕ} → (at < length b → p ≡ at + 5) → (name : List ℕ) {r : Bool} → NameLike b p name r → r ≡ alike name t.name
  row-like begins name like = like t.name _ (ap (λ n. drop n b) (begins row_before) ∙ name-stands)

-- All rows have so many cells: the first has, and the others have.
row-long : (characters : ℕ) (t : Taxon) (ts : List Taxon) → all_long characters (t ∷ ts) ≡ true → length t.cells ≡ characters
unfolding all_long
row-long characters t ts h = eqb-true (length t.cells) characters (and_left _ (all_long characters ts) h)

rows-long : (characters : ℕ) (t : Taxon) (ts : List Taxon) → all_long characters (t ∷ ts) ≡ true → all_long characters ts ≡ true
unfolding all_long
rows-long characters t ts h = and_right (eqb (length t.cells) characters) _ h

-- Behind the LF of the first row's cells the other rows stand.
pub rows_behind : {b : List ℕ} {at characters : ℕ} {t : Taxon} {ts : List Taxon} {rest : List ℕ} → RowsStand b at characters (t ∷ ts) rest
    → RowsStand b (at + before_cells t + length (spell_cells t.cells) + 1) characters ts rest
rows_behind {b} {at} {characters} {t} {ts} {rest} s = record { long = rows-long characters t ts s.long; here = rows-stand b at t ts rest s.here }

-- Where the cells of the first row begin, by the end of its name.
pub cells-begun : (b : List ℕ) (at : ℕ) {r : ℕ} → r ≡ at + 5 + length (line_at b (at + 5)) → CellsBegin b at (r + 7)
cells-begun b at e t ts rest here = let name = ap length (row-name b at t ts rest here) in omega (arith, before-length b at t ts rest here, e)

pub cells-past : (b : List ℕ) (at : ℕ) → length b ≤ at → CellsBegin b at at
cells-past b at h t ts rest here = absurd (omega (arith, row_before b at t ts rest here))

-- A cell has a byte, and each but the last has a blank behind it.
cell-some : (c : Cell) → 1 ≤ length (spell_cell c)
unfolding spell_cell
cell-some (state i) = some-length (decimal i) (decimal-some i)
cell-some (uncertain s) = omega arith
cell-some (polymorphic s) = omega arith
cell-some missing = omega arith
cell-some gap = omega arith

cells-many : (cs : List Cell) → length cs * 2 ≤ length (spell_cells cs) + 1
unfolding spell_cells
cells-many [] = omega arith
cells-many (c ∷ []) = omega (arith, cell-some c)
cells-many (c ∷ d ∷ r) = omega (arith, length-append (spell_cell c) (32 ∷ spell_cells (d ∷ r)), cell-some c, cells-many (d ∷ r))

-- What is left behind some bytes without LF has none.
drop-clean : (k : ℕ) (l : List ℕ) → among 10 l ≡ false → among 10 (drop k l) ≡ false
unfolding among
drop-clean zero l h = h
drop-clean (suc k) [] h = h
drop-clean (suc k) (a ∷ l) h = drop-clean k l (or_right (eqb 10 a) (among 10 l) h)

-- Where so many cells end.
module _ (b : List ℕ) (at characters : ℕ) where
  -- Cells and an LF behind them take so many bytes.
  cells-room : (cs : List Cell) (rest : List ℕ) → length cs ≡ characters → drop at b ≡ spell_cells cs ++ (10 ∷ rest)
      → (length (spell_cells cs) + 1 ≤ length b - at) × (characters * 2 ≤ length (spell_cells cs) + 1)
  cells-room cs rest e here =
      let size = ap length here in
      (omega (arith, length-append (spell_cells cs) (10 ∷ rest), length-drop at b), omega (arith, cells-many cs))

  pub cells-none : length b ≤ at → CellsEnd b at characters at
  cells-none h t rest e here = absurd (omega (arith, (cells-room t.cells rest e here).0))

  no_cells : (cs : List Cell) → length cs ≡ 0 → length (spell_cells cs) ≡ 0
  unfolding spell_cells
  no_cells [] e = refl
  no_cells (c ∷ cs) e = absurd (omega arith)

  pub cells-few : eqb characters 0 || ltb ((length b - at) / 2) characters ≡ true → CellsEnd b at characters at
  cells-few few t rest e here =
      by-test (eqb characters 0)
      (λ z. omega (arith, no_cells t.cells (e ∙ eqb-true characters 0 z)))
      (λ z.
      let (room, many) = cells-room t.cells rest e here in
      let short = ltb-true ((length b - at) / 2) characters (rw z at few) in
      absurd (omega arith))

  module _ (some : eqb characters 0 || ltb ((length b - at) / 2) characters ≡ false) where
    pub jump-some : 1 ≤ characters
    jump-some = let z = eqb-false characters 0 (or_left (eqb characters 0) _ some) in omega (arith, z)

    pub jump-within : characters * 2 ≤ length b - at
    jump-within = let h = ltb-false ((length b - at) / 2) characters (or_right (eqb characters 0) _ some) in omega arith

    pub cells-jumped : {r : ℕ} → r ≡ at + (characters * 2 - 1) + length (line_at b (at + (characters * 2 - 1))) → CellsEnd b at characters r
    unfolding line_at
    cells-jumped {r} is t rest e here =
        let c = spell_cells t.cells in
        let k = characters * 2 - 1 in
        let (room, many) = cells-room t.cells rest e here in
        let there : drop (at + k) b ≡ drop k c ++ (10 ∷ rest) = sym (drop-drop k at b) ∙ ap (drop k) here ∙ drop-append-le k c (10 ∷ rest) (omega arith) in
        let left : line_at b (at + k) ≡ drop k c = rw there (line-front (drop k c) rest (drop-clean k c (cells-clean t.cells))) in
        let size = ap length left in
        omega (arith, length-drop k c)

-- The rows behind the first, by where its cells end.
module _ (b : List ℕ) (at characters : ℕ) {begin end : ℕ} (begins : CellsBegin b at begin) (ends : CellsEnd b begin characters end) where
  pub row-ended : (t : Taxon) (ts : List Taxon) (rest : List ℕ) → RowsStand b at characters (t ∷ ts) rest → end ≡ at + before_cells t + length (spell_cells t.cells)
  row-ended t ts rest s =
      let first = begins t ts rest s.here in
      let cells : drop begin b ≡ spell_cells t.cells ++ (10 ∷ spell_taxa ts rest) = rw first (cells-stand b at t ts rest s.here) in
      ends t (spell_taxa ts rest) (row-long characters t ts s.long) cells ∙ ap (λ n. n + length (spell_cells t.cells)) first

  pub row-passed : RowPassed b at characters (end + 1)
  row-passed t ts rest s = rw (row-ended t ts rest s) (rows_behind s)

  pub row-outside : length b ≤ end → RowPassed b at characters end
  row-outside h t ts rest s = absurd (omega (arith, cells-before b at t ts rest s.here, row-ended t ts rest s))
