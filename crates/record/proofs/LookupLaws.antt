-- The lookup finds the cells of the row that has the name, and refuses a name that no row has. Assumes nothing.
use Prim.Native.Nat.{ℕ, ◌+◌, ◌≤◌}
use Rattle.block.specs.Cell.{Cell, state, uncertain, polymorphic, missing, gap}
use Rattle.block.specs.Interleaved.{all_long}
use Rattle.block.specs.Names.{known}
use Rattle.block.specs.Reading.{Taxon, Reading}
use Rattle.block.specs.Sequential.{names}
use Rattle.block.specs.Sound.{Sound, names_differ}
use Rattle.lexer.proofs.Basics.{and_left, and_right, or_left, or_right, by-test, alike-sym, alike_both}
use Rattle.lexer.specs.Base.{pick, bytes, alike}
use Rattle.record.proofs.AsciiCase.{alike-letters, letters-alike}
use Rattle.record.proofs.DecimalLaws.{decimal-some}
use Rattle.record.proofs.PieceLaws.{line-behind, taxa-behind, head-behind, taxa-append, line-length, cells-length}
use Rattle.record.proofs.SpellLaws.{some-length}
use Rattle.record.proofs.UnspellLaws.{spell-unspell}
use Rattle.record.specs.Calls.{not_found, found, looked_up, lookup_answer}
use Rattle.record.specs.Decimal.{decimal}
use Rattle.record.specs.Demands.{Alike, Row, CellsOf, nothing_found, LookupFindsTheRow, LookupRefusesOtherNames}
use Rattle.record.specs.Lookup.{Stretch, before_cells, find_cells, lookup}
use Rattle.record.specs.Spell.{line, escaped, spell_cell, spell_cells, spell_taxa, spell_characters, spell_head, spell}
use borrow.Author.Tests.{eqb-true, not-true}
use lib.Dec.{eqb}
use lib.ListN.{length, drop, length-append}
use lib.Seq.{take_at, drop_at, drop-drop}
use mathlib.Core.Bool.{true, false, not, true≢false}
use mathlib.Core.List.{List, [], ◌∷◌, ◌++◌}
use mathlib.Core.Option.{Option, none, some}
use mathlib.Core.Path.{◌≡◌, refl, sym, ap, ◌∙◌}
use native.Mathlib.Omega.{arith}

-- The record around a row's cells
unfoldable row_before : {r : Reading} → Row r → List ℕ
row_before {r} row = spell_head r (spell_taxa row.above (line "name=" (escaped row.taxon.name) (bytes "cells=")))

unfoldable row-behind : {r : Reading} → Row r → List ℕ
row-behind {r} row = 10 ∷ spell_taxa row.below (spell_characters 1 r.characters [])

record-around : {r : Reading} (row : Row r) → spell r ≡ row_before row ++ (spell_cells row.taxon.cells ++ row-behind row)
unfolding spell row_before row-behind spell_taxa
record-around {r} row =
    let n = escaped row.taxon.name in
    let c = spell_cells row.taxon.cells ++ row-behind row in
    let cells : line "cells=" (spell_cells row.taxon.cells) (spell_taxa row.below (spell_characters 1 r.characters [])) ≡ bytes "cells=" ++ c = unfold line in refl in
    rw (← row.all, taxa-append, cells, line-behind "name=" n (bytes "cells=") c, taxa-behind, head-behind)

-- Where the walk comes to a row: no row above has the name, since names differ.
abbrev row_stretch : ℕ → Taxon → Option Stretch
row_stretch at t = some (record { start = at; size = length (spell_cells t.cells) })

unlike-above : (n : List ℕ) (us : List Taxon) (t : Taxon) (vs : List Taxon) → known n (names (us ++ (t ∷ vs))) ≡ false → alike n t.name ≡ false
unfolding known names
unlike-above n [] t vs h = or_left _ (known n (names vs)) h
unlike-above n (u ∷ us) t vs h = unlike-above n us t vs (or_right (alike n u.name) _ h)

row-found : (name : List ℕ) (at : ℕ) (us : List Taxon) (t : Taxon) (vs : List Taxon) → alike name t.name ≡ true
    → names_differ (names (us ++ (t ∷ vs))) ≡ true
    → find_cells name at (us ++ (t ∷ vs)) ≡ row_stretch (at + length (spell_taxa us (line "name=" (escaped t.name) (bytes "cells=")))) t
unfolding find_cells spell_taxa names names_differ pick before_cells bytes
row-found name at [] t vs h d =
    rw h (ap (λ n. row_stretch n t) (omega (arith, line-length "name=" (escaped t.name) (bytes "cells="))))
row-found name at (u ∷ us) t vs h d =
    let fresh : known u.name (names (us ++ (t ∷ vs))) ≡ false = not-true _ (and_left _ (names_differ (names (us ++ (t ∷ vs)))) d) in
    let other : alike name u.name ≡ false =
    by-test (alike name u.name)
    (λ e. absurd (true≢false (sym (alike_both u.name t.name name (alike-sym u.name name ∙ e) (alike-sym t.name name ∙ h)) ∙ unlike-above u.name us t vs fresh)))
    (λ e. e)
    in
    let here = line "name=" (escaped t.name) (bytes "cells=") in
    let cells = spell_cells u.cells in
    rw other
    (row-found name (at + before_cells u + length cells + 1) us t vs h (and_right (not (known u.name (names (us ++ (t ∷ vs))))) _ d)
    ∙ ap (λ n. row_stretch n t)
    (omega (arith, line-length "name=" (escaped u.name) (line "cells=" cells (spell_taxa us here)), cells-length cells (spell_taxa us here))))

no-row-found : (name : List ℕ) (at : ℕ) (ts : List Taxon)
    → ((us : List Taxon) (t : Taxon) (vs : List Taxon) → us ++ (t ∷ vs) ≡ ts → alike name t.name ≡ false) → find_cells name at ts ≡ none
unfolding find_cells pick
no-row-found name at [] h = refl
no-row-found name at (t ∷ ts) h =
    rw (h [] t ts refl) (no-row-found name (at + before_cells t + length (spell_cells t.cells) + 1) ts (λ us u vs e. h (t ∷ us) u vs (ap (◌∷◌ t) e)))

-- No row is without cells, and so none has an empty stretch.
row-long : (k : ℕ) (us : List Taxon) (t : Taxon) (vs : List Taxon) → all_long k (us ++ (t ∷ vs)) ≡ true → length t.cells ≡ k
unfolding all_long
row-long k [] t vs h = eqb-true (length t.cells) k (and_left _ (all_long k vs) h)
row-long k (u ∷ us) t vs h = row-long k us t vs (and_right (eqb (length u.cells) k) _ h)

pub cell-some : (c : Cell) → 1 ≤ length (spell_cell c)
unfolding spell_cell
cell-some (state i) = some-length (decimal i) (decimal-some i)
cell-some (uncertain s) = omega arith
cell-some (polymorphic s) = omega arith
cell-some missing = omega arith
cell-some gap = omega arith

cells-some : (cs : List Cell) → 1 ≤ length cs → 1 ≤ length (spell_cells cs)
unfolding spell_cells
cells-some [] h = absurd (omega arith)
cells-some (c ∷ []) h = cell-some c
cells-some (c ∷ d ∷ r) h = omega (arith, length-append (spell_cell c) (32 ∷ spell_cells (d ∷ r)))

-- What the lookup answers in a record
row-answer : (name : List ℕ) {r : Reading} (row : Row r) → Sound r → Alike name row.taxon.name
    → looked_up name (some r) ≡ record { refused = 0; stretch = record { start = length (row_before row); size = length (spell_cells row.taxon.cells) } }
unfolding looked_up found lookup row_before
row-answer name {r} row s a =
    let here = spell_taxa row.above (line "name=" (escaped row.taxon.name) (bytes "cells=")) in
    let differ : names_differ (names (row.above ++ (row.taxon ∷ row.below))) ≡ true = ap (λ ts. names_differ (names ts)) row.all ∙ s.names_unlike in
    let found : find_cells name (length (spell_head r [])) r.taxa ≡ row_stretch (length (spell_head r []) + length here) row.taxon =
    ap (find_cells name (length (spell_head r []))) (sym row.all) ∙ row-found name (length (spell_head r [])) row.above row.taxon row.below (letters-alike name row.taxon.name a) differ
    in
    let front : length (spell_head r here) ≡ length (spell_head r []) + length here = ap length (head-behind r [] here) ∙ length-append (spell_head r []) here in
    rw (found, front)

row-cells : {r : Reading} (row : Row r) → Sound r
    → CellsOf row (spell r) (record { start = length (row_before row); size = length (spell_cells row.taxon.cells) })
unfolding row_before row-behind
row-cells {r} row s =
    let p = row_before row in
    let c = spell_cells row.taxon.cells in
    let long : length row.taxon.cells ≡ length r.characters = row-long (length r.characters) row.above row.taxon row.below (ap (all_long (length r.characters)) row.all ∙ s.rows_long) in
    let all = record-around row in
    let behind : drop (length p) (p ++ (c ++ row-behind row)) ≡ c ++ row-behind row = drop_at p (c ++ row-behind row) (length p) refl in
    record {
      before = rw all (take_at p (c ++ row-behind row) (length p) refl);
      cells = rw (all, behind) (take_at c (row-behind row) (length c) refl);
      behind = rw (all, ← drop-drop (length c) (length p) (p ++ (c ++ row-behind row)), behind) (drop_at c (row-behind row) (length c) refl);
      some = cells-some row.taxon.cells (omega (arith, some-length r.characters s.some_character));
    }

pub found-row : LookupFindsTheRow
unfolding lookup_answer
found-row name b r e row a =
    let k = spell-unspell b r e in
    let answer = row-answer name row k.1 a in
    rw (e, answer) (refl, rw k.0 at (row-cells row k.1))

pub other-names : LookupRefusesOtherNames
unfolding looked_up found not_found lookup
other-names name b r e = (refused, missed)
  where
    refused : lookup_answer name b ≡ nothing_found 33 → (row : Row r) → ¬ (Alike name row.taxon.name)
    refused h row a = let z = sym (ap (λ x. x.refused) h) ∙ (found-row name b r e row a).0 in omega arith

    unlike : ((row : Row r) → ¬ (Alike name row.taxon.name)) → (us : List Taxon) (t : Taxon) (vs : List Taxon) → us ++ (t ∷ vs) ≡ r.taxa
        → alike name t.name ≡ false
    unlike h us t vs q =
        let row : Row r = record { above = us; taxon = t; below = vs; all = q } in
        by-test (alike name t.name) (λ y. absurd (h row (alike-letters name t.name y))) (λ n. n)

    missed : ((row : Row r) → ¬ (Alike name row.taxon.name)) → lookup_answer name b ≡ nothing_found 33
    missed h = unfold lookup_answer in rw (e, no-row-found name (length (spell_head r [])) r.taxa (unlike h))
