-- The rows of a record: what judging a name and cells tells of a row. Assumes nothing.
use Rattle.std.specs.Prelude.{Some, None, Option}
use Prim.Native.Nat.{ℕ, suc, ◌+◌, ◌≤◌}
use Rattle.block.specs.Cell.{Cell}
use Rattle.block.specs.Reading.{Taxon}
use Rattle.block.specs.Sound.{gap_among, sound_cells, sound_name}
use Rattle.block.specs.declared.data.CharacterNumber.{CharacterNumber}
use Rattle.judging.proofs.ListTold.{Listing, listing-over, listing-short, listing_step}
use Rattle.judging.proofs.TellLaws.{no_end, same-told, tells-end, tells-judges, tells-keyed, tells-no-key, tells-no-first, tells-same, tells-then}
use Rattle.judging.specs.CellsJudged.{CellsJudged}
use Rattle.judging.specs.Judges.{Judges, Stands}
use Rattle.judging.specs.Parts.{CellsTold, RowGood, RowTold, RowsTold, spell_row, row_gap}
use Rattle.judging.specs.Tells.{Part, nothing, until, Tells, behind_of, cells_of}
use Rattle.lexer.specs.Base.{bytes}
use Rattle.record.specs.Spell.{escaped, line, spell_cells}
use lib.ListN.{length, drop, length-append}
use mathlib.Core.Bool.{Bool, true, false, ◌||◌}
use mathlib.Core.List.{List, [], ◌∷◌, ◌++◌, append_assoc}
use mathlib.Core.Path.{◌≡◌, refl, sym, ap, ◌∙◌, subst}
use native.Mathlib.Omega.{arith}

-- A line in front of what stands behind it.
pub line-behind : (key : _) (v behind : List ℕ) → line key v behind ≡ line key v [] ++ behind
unfolding line
line-behind key v behind = ap (λ l. bytes key ++ l) (sym (append_assoc v (10 ∷ []) behind)) ∙ sym (append_assoc (bytes key) (v ++ (10 ∷ [])) behind)

-- A name behind a key.
module _ (b : List ℕ) (i : ℕ) (key : List ℕ) (r : Option ℕ) (judged : Judges b i (λ (u : Unit {0}). Unit {0}) (λ u. key) r) where
  abbrev Named : Option ℕ → Type 0
  Named s = Judges b i (λ n. sound_name n ≡ true) (λ n. key ++ (escaped n ++ (10 ∷ []))) s

  pub name-keyed : (j : ℕ) → r ≡ Some j → (s : Option ℕ) → Judges b j (λ n. sound_name n ≡ true) (λ n. escaped n ++ (10 ∷ [])) s → Named s
  name-keyed j here s named = tells-judges b i _ _ s (tells-keyed b i key _ _ (λ n. tt) r judged j here (behind_of s) (tells-end b j _ _ s named))

  pub name-no-key : r ≡ None → Named None
  unfolding behind_of
  name-no-key none = tells-judges b i _ _ None (tells-no-key b i key _ _ (λ n. tt) r judged none)

-- Cells and the LF behind them.
module _ (b : List ℕ) (characters states : ℕ) where
  abbrev CellsGood : List Cell → Type 0
  CellsGood cs = (sound_cells states cs ≡ true) × (length cs ≡ characters)

  cells_told : (i : ℕ) → 1 ≤ characters → (r : Option (ℕ × Bool)) → CellsJudged b i characters states r
      → Tells b i CellsGood (λ cs. spell_cells cs ++ (10 ∷ [])) gap_among (cells_of r)
  unfolding cells_of
  cells_told i some r judged = record { found = found r judged; all = all }
    where
      found : (r : Option (ℕ × Bool)) → CellsJudged b i characters states r → (j : ℕ) (g : Bool) → cells_of r ≡ until j g
          → (s : Stands b i CellsGood (λ cs. spell_cells cs ++ (10 ∷ [])) j) × (g ≡ gap_among s.what)
      found (Some (k, h)) judged j g e =
          let (kj, hg) = same-told e in
          let same : Some (k, h) ≡ Some (j, g) = rw (kj, hg) refl in
          let s = judged.found j g same in
          let end : j ≡ i + length (spell_cells s.cells ++ (10 ∷ [])) = simp length-append (omega (arith, s.end)) in
          let stands : drop i b ≡ (spell_cells s.cells ++ (10 ∷ [])) ++ drop j b = s.here ∙ sym (append_assoc (spell_cells s.cells) (10 ∷ []) (drop j b)) in
          (record { what = s.cells; sound = (s.sound, s.count); here = stands; end = end }, s.gap)
      found None judged j g e = absurd (no_end e)

      all : (cs : List Cell) (rest : List ℕ) → CellsGood cs → drop i b ≡ (spell_cells cs ++ (10 ∷ [])) ++ rest
          → cells_of r ≡ until (i + length (spell_cells cs ++ (10 ∷ []))) (gap_among cs)
      all cs rest (sound, count) e =
          let told = judged.all cs rest sound count some (e ∙ append_assoc (spell_cells cs) (10 ∷ []) rest) in
          let end : i + length (spell_cells cs) + 1 ≡ i + length (spell_cells cs ++ (10 ∷ [])) = simp length-append (omega arith) in
          ap cells_of told ∙ ap (λ n. until n (gap_among cs)) end

  -- The key and the cells.
  module _ (i : ℕ) (r : Option ℕ) (judged : Judges b i (λ (u : Unit {0}). Unit {0}) (λ u. bytes "cells=") r) where
    pub cells-keyed : (j : ℕ) → r ≡ Some j → 1 ≤ characters → (s : Option (ℕ × Bool)) → CellsJudged b j characters states s → CellsTold b i characters states s
    unfolding line
    cells-keyed j here some s told = tells-keyed b i (bytes "cells=") _ _ gap_among r judged j here (cells_of s) (cells_told j some s told)

    pub cells-no-key : r ≡ None → CellsTold b i characters states None
    unfolding line cells_of
    cells-no-key none = tells-no-key b i (bytes "cells=") _ _ gap_among r judged none

  -- The name and the cells.
  module _ (i : ℕ) (r : Option ℕ) (judged : Judges b i (λ n. sound_name n ≡ true) (λ n. bytes "name=" ++ (escaped n ++ (10 ∷ []))) r) where
    abbrev named : List ℕ → List ℕ
    named n = bytes "name=" ++ (escaped n ++ (10 ∷ []))

    told_name : Tells b i (λ n. sound_name n ≡ true) named (λ n. tt) (behind_of r)
    told_name = tells-end b i _ _ r judged

    taxon : List ℕ × List Cell → Taxon
    taxon p = record { name = p.0; cells = p.1 }

    as_row : (s : Part Bool)
        → Tells b i (λ (p : List ℕ × List Cell). (sound_name p.0 ≡ true) × CellsGood p.1) (λ p. named p.0 ++ line "cells=" (spell_cells p.1) []) (λ p. gap_among p.1) s
        → Tells b i (RowGood characters states) spell_row row_gap s
    unfolding spell_row row_gap line taxon
    as_row =
        tells-same b i (RowGood characters states) spell_row row_gap taxon
        (λ p g. line-behind "name=" (escaped p.0) (line "cells=" (spell_cells p.1) []))
        (λ p g. record { name = g.0; cells = g.1.0; long = g.1.1 })
        (λ p g. refl)
        (λ t g. ((t.name, t.cells), (g.name, (g.cells, g.long)), refl))

    pub row-named : (j : ℕ) → r ≡ Some j → (s : Option (ℕ × Bool)) → CellsTold b j characters states s → RowTold b i characters states s
    unfolding behind_of
    row-named j here s told =
        let first : Tells b i (λ n. sound_name n ≡ true) named (λ n. tt) (until j tt) =
        subst (λ a. Tells b i (λ n. sound_name n ≡ true) named (λ n. tt) (behind_of a)) here told_name in
        as_row (cells_of s) (tells-then b i (λ n. sound_name n ≡ true) named (λ n. tt) (λ v. CellsGood) (λ v cs. line "cells=" (spell_cells cs) []) (λ v. gap_among) j tt (cells_of s) first told)

    pub row-unnamed : r ≡ None → RowTold b i characters states None
    unfolding behind_of cells_of
    row-unnamed none =
        let first : Tells b i (λ n. sound_name n ≡ true) named (λ n. tt) nothing =
        subst (λ a. Tells b i (λ n. sound_name n ≡ true) named (λ n. tt) (behind_of a)) none told_name in
        as_row nothing (tells-no-first b i (λ n. sound_name n ≡ true) named (λ n. tt) (λ v. CellsGood) (λ v cs. line "cells=" (spell_cells cs) []) (λ v. gap_among) first)

-- What the turns over rows keep: what is judged of the rows that are left is judged of all.
abbrev pub RowsLeft : List ℕ → ℕ → CharacterNumber → ℕ → ℕ → ℕ → Bool → ℕ → Type 0
RowsLeft b i characters states n at gap left =
    1 ≤ characters.0 → (next : ℕ) × Listing b (λ k. RowGood characters.0 states) (λ k. spell_row) row_gap ◌||◌ i 1 n false at next left gap

module _ (b : List ℕ) (i : ℕ) (characters : CharacterNumber) (states n at : ℕ) (gap : Bool) (left : ℕ) (walk : RowsLeft b i characters states n at gap left) where
  -- A row more stands there.
  pub rows_step : {less : ℕ} → left ≡ suc less → {r : Option (ℕ × Bool)} → (1 ≤ characters.0 → RowTold b at characters.0 states r) → (j : ℕ) (g : Bool) → r ≡ Some (j, g)
      → RowsLeft b i characters states n j (gap || g) less
  unfolding cells_of
  rows_step more told j g here some =
      let (next, listing) = walk some in
      (suc next, listing_step b _ _ _ _ listing more j g (subst (λ a. RowTold b at characters.0 states a) here (told some)))

  -- None stands there.
  pub rows_short : {less : ℕ} → left ≡ suc less → {r : Option (ℕ × Bool)} → (1 ≤ characters.0 → RowTold b at characters.0 states r) → r ≡ None
      → 1 ≤ characters.0 → RowsTold b i n characters.0 states None
  unfolding cells_of
  rows_short more told none some =
      let (next, listing) = walk some in
      listing-short b _ _ _ _ listing more (subst (λ a. RowTold b at characters.0 states a) none (told some))

  -- No rows are left.
  pub rows-over : left ≤ 0 → 1 ≤ characters.0 → RowsTold b i n characters.0 states (Some (at, gap))
  unfolding cells_of
  rows-over over some = let (next, listing) = walk some in listing-over b _ _ _ _ listing over
