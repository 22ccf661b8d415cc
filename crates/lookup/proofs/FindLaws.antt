-- The cells of a name's row: what the first row answers, and the rows behind it. Assumes nothing.
use Rattle.std.specs.Prelude.{Some, None, Option}
use Prim.Native.Nat.{ℕ, ◌+◌, ◌-◌, ◌<◌}
use Rattle.block.specs.Reading.{Taxon}
use Rattle.lexer.specs.Base.{pick, alike}
use Rattle.lookup.specs.declared.Cells.{Cells}
use Rattle.lookup.specs.Finding.{sought_of, CellsSought}
use Rattle.naming.proofs.RowLaws.{row_before, row-like, row-ended, rows_behind}
use Rattle.naming.specs.Rows.{RowsStand, CellsBegin, CellsEnd, NameLike, RowPassed}
use Rattle.record.specs.Lookup.{before_cells, find_cells}
use Rattle.record.specs.Spell.{spell_cells}
use lib.ListN.{length, length-drop}
use mathlib.Core.Bool.{Bool, true, false}
use mathlib.Core.List.{List, [], ◌∷◌}
use mathlib.Core.Path.{◌≡◌, refl, sym, ap, ◌∙◌}
use native.Mathlib.Omega.{arith}

-- The search from one place is the search from another where the same rows stand.
find-place : (b : List ℕ) (i j characters : ℕ) (name : List ℕ) (ts : List Taxon) (rest : List ℕ) → RowsStand b i characters ts rest → RowsStand b j characters ts rest
    → find_cells name i ts ≡ find_cells name j ts
unfolding find_cells
find-place b i j characters name [] rest s z = refl
find-place b i j characters name (t ∷ ts) rest s z =
    let h = row_before b i t ts rest s.here in
    let k = row_before b j t ts rest z.here in
    let same : i ≡ j = omega (arith, length-drop i b, length-drop j b, ap length (s.here ∙ sym z.here)) in
    rw same

-- A search of which so many rows from here on are left: what is answered for them is answered for all.
pub record Seeking (b : List ℕ) (at taxa characters : ℕ) (name : List ℕ) (here left : ℕ) : Type 0 where
  pub back : (r : Option Cells) → CellsSought b here left characters name r → CellsSought b at taxa characters name r

pub seeking-all : (b : List ℕ) (at taxa characters : ℕ) (name : List ℕ) → Seeking b at taxa characters name at taxa
seeking-all b at taxa characters name = record { back = λ r s. s }

module _ (b : List ℕ) (at taxa characters : ℕ) (name : List ℕ) (here left : ℕ) (k : Seeking b at taxa characters name here left) where
  -- No row is left.
  pub seeking-end : left ≡ 0 → CellsSought b at taxa characters name None
  unfolding find_cells sought_of
  seeking-end e = k.back None go
    where
      go : CellsSought b here left characters name None
      go [] rest size s = refl
      go (t ∷ ts) rest size s = absurd (omega arith)

  module _ (some : 0 < left) {n : ℕ} {test : Bool} (begins : here < length b → n ≡ here + 5) (like : NameLike b n name test) where
    -- The first row has the name.
    pub seeking-found : test ≡ true → {begin end : ℕ} → CellsBegin b here begin → CellsEnd b begin characters end
        → CellsSought b at taxa characters name (Some (record { start = begin; end = end }))
    unfolding find_cells sought_of pick
    seeking-found hit {begin} {end} starts ends = k.back (Some (record { start = begin; end = end })) go
      where
        go : CellsSought b here left characters name (Some (record { start = begin; end = end }))
        go [] rest size s = absurd (omega arith)
        go (t ∷ ts) rest size s =
            let is : alike name t.name ≡ true = sym (row-like b here t ts rest s.here begins name like) ∙ hit in
            rw (is, starts t ts rest s.here, row-ended b here characters starts ends t ts rest s)

    -- It has not: the rows behind it are left.
    pub seeking-turn : test ≡ false → {next : ℕ} → RowPassed b here characters next → Seeking b at taxa characters name next (left - 1)
    unfolding find_cells pick
    seeking-turn miss {next} passed = record { back = λ r s. k.back r (go r s) }
      where
        go : (r : Option Cells) → CellsSought b next (left - 1) characters name r → CellsSought b here left characters name r
        go r answer [] rest size s = absurd (omega arith)
        go r answer (t ∷ ts) rest size s =
            let other : alike name t.name ≡ false = sym (row-like b here t ts rest s.here begins name like) ∙ miss in
            let there = passed t ts rest s in
            let same = find-place b next (here + before_cells t + length (spell_cells t.cells) + 1) characters name ts rest there (rows_behind s) in
            rw (other, ← same) (answer ts rest (omega arith) there)
