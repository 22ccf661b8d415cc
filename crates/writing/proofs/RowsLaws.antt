-- Rows put one behind another from the lines of taxa: what is left of them, and whatever puts that makes all of them put. Assumes nothing.
use Prim.Native.Nat.{ℕ, ◌+◌, ◌^◌, ◌<◌, ◌≤◌, min}
use Rattle.block.specs.Interleaved.{all_long}
use Rattle.block.specs.Reading.{Taxon}
use Rattle.block.specs.Sound.{sound_cells, sound_rows}
use Rattle.block.specs.declared.data.DataType.{DataType}
use Rattle.emit.proofs.PutLaws.{puts_none, puts_then}
use Rattle.emit.specs.Puts.{Puts, last_place}
use Rattle.naming.proofs.RowLaws.{drop-behind}
use Rattle.lexer.proofs.Basics.{and_left, and_right}
use Rattle.lexer.specs.Base.{bytes}
use Rattle.record.specs.Form.{form_rows}
use Rattle.record.specs.Spell.{escaped, line, spell_cells, spell_taxa}
use Rattle.writing.proofs.SignsRead.{front_rest}
use Rattle.writing.specs.CellsPut.{CellsPut}
use Rattle.writing.specs.FormPut.{QuotedPut}
use Rattle.writing.specs.RowsPut.{RowPut, RowsPut, TaxaHere, form_row}
use Rattle.writing.specs.Signs.{Signed}
use Rattle.writing.specs.declared.Putting.{Putting}
use borrow.Author.Tests.{eqb-true}
use lib.Dec.{eqb}
use lib.ListN.{length, drop, length-append, length-drop}
use mathlib.Core.List.{List, [], ◌∷◌, ◌++◌}
use mathlib.Core.Path.{◌≡◌, sym, ap, ◌∙◌}
use native.Mathlib.Omega.{arith}

-- Behind the key of a line stands its value, and behind its LF the rest.
key-behind : (b : List ℕ) (at r : ℕ) (key value rest : List ℕ) → length b < 2 ^ 64 → r ≡ min last_place (at + length key) → drop at b ≡ key ++ (value ++ (10 ∷ rest)) → drop r b ≡ value ++ (10 ∷ rest)
unfolding last_place
key-behind b at r key value rest small e here =
    let size = sym (length-drop at b) ∙ ap length here ∙ length-append key (value ++ (10 ∷ rest)) in
    let more = length-append value (10 ∷ rest) in
    let place : r ≡ at + length key = omega arith in
    rw place (drop-behind b at key (value ++ (10 ∷ rest)) here)

line-behind : (b : List ℕ) (r m : ℕ) (value rest : List ℕ) → drop r b ≡ value ++ (10 ∷ rest) → m ≡ r + length value + 1 → drop m b ≡ rest
line-behind b r m value rest here e = rw e (front_rest b (r + length value) 10 rest (drop-behind b r value (10 ∷ rest) here))

-- A name in quotes, a blank, cells and an LF are a row.
pub row_put : (b signs : List ℕ) (at first second : ℕ) {before named spaced celled after : List ℕ} {n k m : ℕ} {name cells : Putting} → length b < 2 ^ 64
    → first ≡ min last_place (at + 5) → QuotedPut b first before n named name → Puts named name.n (λ behind. 32 ∷ behind) spaced k
    → second ≡ min last_place (name.at + 6) → CellsPut b signs second spaced k celled cells → Puts celled cells.n (λ behind. 10 ∷ behind) after m
    → RowPut b signs at before n after (record { at = cells.at; n = m })
unfolding spell_taxa line bytes form_row
row_put b signs at first second {name = name} {cells} small e q s f c l t symbols g x rest some sound here =
    let tail = bytes "cells=" ++ (spell_cells x.cells ++ (10 ∷ rest)) in
    let value = key-behind b at first (bytes "name=") (escaped x.name) tail small e here in
    let quoted = q x.name tail value in
    let next = line-behind b first name.at (escaped x.name) tail value quoted.next in
    let row = key-behind b name.at second (bytes "cells=") (spell_cells x.cells) rest small f next in
    let put = c t symbols g x.cells rest (record { some = some; sound = sound; here = row }) in
    record { next = line-behind b second cells.at (spell_cells x.cells) rest row put.next; put = puts_then quoted.put (puts_then s (puts_then put.put l)) }

-- Some taxa are left at a place, behind so many.
pub record TaxaLeft (t : DataType) (symbols b : List ℕ) (taxa count : ℕ) (ts : List Taxon) (rest before : List ℕ) (n : ℕ) (after : List ℕ) (at m i : ℕ) : Type 0 where
  pub left : List Taxon
  pub size : length left + i ≡ taxa
  pub here : TaxaHere b (length symbols) count at left rest
  pub back : (last : List ℕ) (next : ℕ) → Puts after m (form_rows t symbols left) last next → Puts before n (form_rows t symbols ts) last next

-- Where so many taxa stand, some are left.
abbrev pub Rows : List ℕ → List ℕ → ℕ → ℕ → List ℕ → ℕ → List ℕ → ℕ → ℕ → ℕ → Type 0
Rows b signs taxa from before n after at m i =
    (t : DataType) (symbols : List ℕ) → Signed t symbols signs → (count : ℕ) (ts : List Taxon) (rest : List ℕ) → length ts ≡ taxa
    → TaxaHere b (length symbols) count from ts rest → TaxaLeft t symbols b taxa count ts rest before n after at m i

-- All are left at the start.
pub rows_start : (b signs : List ℕ) (taxa from : ℕ) (before : List ℕ) (n : ℕ) → Rows b signs taxa from before n before from n 0
rows_start b signs taxa from before n t symbols g count ts rest size here = record { left = ts; size = omega arith; here = here; back = λ last next p. p }

module _ (b signs : List ℕ) (taxa from : ℕ) (before : List ℕ) (n : ℕ) (buffer : List ℕ) (at m i : ℕ) (k : Rows b signs taxa from before n buffer at m i) where
  -- A row is put, and the others are left.
  turned : {t : DataType} {symbols : List ℕ} → Signed t symbols signs → (count : ℕ) (ts : List Taxon) (rest : List ℕ) {after : List ℕ} {r : Putting} → i < taxa → RowPut b signs at buffer m after r
      → (l : List Taxon) → length l + i ≡ taxa → TaxaHere b (length symbols) count at l rest
      → ((last : List ℕ) (next : ℕ) → Puts buffer m (form_rows t symbols l) last next → Puts before n (form_rows t symbols ts) last next)
      → TaxaLeft t symbols b taxa count ts rest before n after r.at r.n (i + 1)
  unfolding all_long sound_rows spell_taxa form_rows form_row
  turned g count ts rest h p [] size here back = absurd (omega arith)
  turned {t} {symbols} g count ts rest h p (x ∷ l) size here back =
      let cells = eqb-true (length x.cells) count (and_left (eqb (length x.cells) count) (all_long count l) here.long) in
      let q = p t symbols g x (spell_taxa l rest) (omega (arith, here.some)) (and_left (sound_cells (length symbols) x.cells) (sound_rows (length symbols) l) here.sound) here.here in
      record {
        left = l;
        size = omega arith;
        here = record {
          some = here.some;
          long = and_right (eqb (length x.cells) count) (all_long count l) here.long;
          sound = and_right (sound_cells (length symbols) x.cells) (sound_rows (length symbols) l) here.sound;
          here = q.next;
        };
        back = λ last next f. back last next (puts_then q.put f);
      }

  pub rows-turn : {after : List ℕ} {r : Putting} → i < taxa → RowPut b signs at buffer m after r → Rows b signs taxa from before n after r.at r.n (i + 1)
  rows-turn h p t symbols g count ts rest size here =
      let l = k t symbols g count ts rest size here in
      turned g count ts rest h p l.left l.size l.here l.back

  -- None are left at the end.
  ended : (t : DataType) (symbols : List ℕ) (ts l : List Taxon) → taxa ≤ i → length l + i ≡ taxa
      → ((last : List ℕ) (next : ℕ) → Puts buffer m (form_rows t symbols l) last next → Puts before n (form_rows t symbols ts) last next)
      → Puts before n (form_rows t symbols ts) buffer m
  unfolding form_rows
  ended t symbols ts [] h size back = back buffer m puts_none
  ended t symbols ts (x ∷ l) h size back = absurd (omega arith)

  pub rows_end : taxa ≤ i → RowsPut b signs taxa from before n buffer m
  rows_end h t symbols g count ts rest size here = let l = k t symbols g count ts rest size here in ended t symbols ts l.left h l.size l.back
