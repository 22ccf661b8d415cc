-- A record judged as a whole: bytes are the record of a reading just if its first four lines, its rows and its characters stand there, one behind
-- another, and nothing behind them. Assumes nothing.
use Rattle.std.specs.Prelude.{Some, Option}
use Prim.Native.Nat.{ℕ, ◌+◌, ◌-◌, ◌≤◌, ◌<◌}
use Rattle.block.proofs.SoundParts.{sound-parts}
use Rattle.block.specs.Blocks.{has_ordered}
use Rattle.block.specs.Interleaved.{all_long}
use Rattle.block.specs.Reading.{Reading}
use Rattle.block.specs.Sound.{Sound, gap_in}
use Rattle.judging.proofs.ReadingParts.{characters-few, characters-labels, characters-marks, characters-spelled, rows-cells, rows-gap, rows-long, rows-names, taxa-spelled}
use Rattle.judging.proofs.RecordParts.{begun, ended, lines-at, lines-told, rows_end}
use Rattle.judging.proofs.RecordReads.{Reads, behind, front, head-spelled, judged-shape, not-empty, opening, opening-front, opening-stands, small_count, symbols-beside, unordered-dna}
use Rattle.judging.specs.Judges.{Stands}
use Rattle.judging.specs.Lists.{Listed, spelled_all}
use Rattle.judging.specs.Opening.{OpeningGood, OpeningTold, Sizes, headed_of, opening_sizes, spell_opening}
use Rattle.judging.specs.Parts.{CharacterGood, CharactersTold, RowGood, RowsTold, no_marks, spell_one, spell_row}
use Rattle.judging.specs.Shapes.{RecordJudged, ShapeOf}
use Rattle.judging.specs.Tells.{Marks, cells_of, characters_of}
use Rattle.judging.specs.Whole.{is_dna}
use Rattle.judging.specs.declared.Shape.{Shape}
use Rattle.judging.specs.declared.heads.Head.{Head}
use Rattle.lexer.proofs.Basics.{or_left, or_right}
use Rattle.naming.proofs.RowLaws.{drop-behind}
use Rattle.naming.specs.Rows.{NamesJudged, RowsStand}
use Rattle.record.specs.Demands.{Counted}
use Rattle.record.specs.Spell.{spell, spell_characters}
use borrow.Author.Tests.{eqb-true, not-false}
use lib.Dec.{eqb, ltb}
use lib.ListN.{length, drop, length-append, drop_of_length-le}
use mathlib.Core.Bool.{Bool, true, false, ◌&&◌, ◌||◌, not}
use mathlib.Core.List.{List, [], ◌∷◌, ◌++◌, append_assoc, append-nil}
use mathlib.Core.Path.{◌≡◌, refl, sym, ap, ◌∙◌}
use native.Mathlib.Omega.{arith}

-- All is well: the bytes are the record of a reading.
module _ (b : List ℕ) (i : ℕ) (h : Head) (told : OpeningTold b 0 (Some (i, h)))
    (j : ℕ) (gaps : Bool) (rows_told : RowsTold b i h.taxa.0 h.characters.0 h.states (Some (j, gaps)))
    (end : ℕ) (label order : Bool) (x : Option (ℕ × Bool × Bool)) (lines : h.states ≤ 1048576 → CharactersTold b j h.characters.0 h.states x)
    (is : x ≡ Some (end, label, order))
    (room : gaps && ltb 72 h.states ≡ false) (differ : NamesJudged b i h.taxa.0 h.characters.0 true)
    (dna : Bool) (same-dna : dna ≡ is_dna h.data_type) (good : not (eqb end (length b)) || (order && dna) ≡ false) where
  made : (r : Reading) × Reads b r
  unfolding headed_of opening_sizes cells_of characters_of spell no_marks
  made =
      let (o, sizes) = told.found i _ refl in
      let (ts, gap) = rows_told.found j gaps refl in
      let (cs, marks) = (lines-told b i h told j gaps rows_told end label order x lines is).found end _ refl in
      reading-made o (ap (λ (z : Sizes). z.data_type) sizes) (ap (λ (z : Sizes). z.taxa) sizes) (ap (λ (z : Sizes). z.characters) sizes) (ap (λ (z : Sizes). z.states) sizes)
      ts (gap ∙ rows-gap false ts.what) cs (ap (λ (m : Marks). m.ordered) (marks ∙ characters-marks no_marks cs.what))
    where
      over : drop end b ≡ []
      over = drop_of_length-le b {i = end} (omega (arith, eqb-true end (length b) (not-false (eqb end (length b)) (or_left (not (eqb end (length b))) (order && dna) good))))

      reading-made : (o : Stands b 0 OpeningGood spell_opening i) → h.data_type ≡ o.what.data_type → h.taxa.0 ≡ o.what.taxa → h.characters.0 ≡ o.what.characters
          → h.states ≡ length o.what.symbols
          → (ts : Stands b i (Listed (λ k. RowGood h.characters.0 h.states) 1 h.taxa.0) (spelled_all (λ k. spell_row) 1) j) → gaps ≡ gap_in ts.what
          → (cs : Stands b j (Listed (λ k. CharacterGood h.states) 1 h.characters.0) (spelled_all spell_one 1) end) → order ≡ has_ordered cs.what
          → (r : Reading) × Reads b r
      reading-made o typed taxa characters states ts gap cs ordered = (r, record { spelled = spelled; sound = sound; counted = counted })
        where
          r : Reading
          r = record { data_type = o.what.data_type; symbols = o.what.symbols; taxa = ts.what; characters = cs.what }

          same-opening : opening r ≡ o.what
          same-opening =
              ap (λ n. record { data_type = o.what.data_type; taxa = n; characters = length cs.what; symbols = o.what.symbols }) (ts.sound.count ∙ taxa)
              ∙ ap (λ n. record { data_type = o.what.data_type; taxa = o.what.taxa; characters = n; symbols = o.what.symbols }) (cs.sound.count ∙ characters)

          lines-here : drop j b ≡ spell_characters 1 cs.what []
          lines-here = cs.here ∙ ap (λ l. spelled_all spell_one 1 cs.what ++ l) over ∙ sym (characters-spelled 1 cs.what [])

          rows-here : drop i b ≡ behind r
          rows-here = ts.here ∙ ap (λ l. spelled_all (λ k. spell_row) 1 ts.what ++ l) lines-here ∙ sym (taxa-spelled 1 ts.what (spell_characters 1 cs.what []))

          spelled : spell r ≡ b
          spelled =
              head-spelled r (behind r) ∙ ap (λ p. spell_opening p ++ behind r) same-opening ∙ ap (λ l. spell_opening o.what ++ l) (sym rows-here) ∙ sym o.here

          counted : Counted r
          counted =
              record {
                taxa = omega (arith, ts.sound.count, taxa, o.sound.taxa.0);
                characters = omega (arith, cs.sound.count, characters, o.sound.characters.0);
              }

          long : all_long (length cs.what) ts.what ≡ true
          long = rw cs.sound.count (rows-long h.characters.0 h.states 1 ts.what ts.sound.each)

          stand : RowsStand b i h.characters.0 ts.what (spell_characters 1 cs.what [])
          stand = record { long = rows-long h.characters.0 h.states 1 ts.what ts.sound.each; here = rows-here }

          sound : Sound r
          sound =
              sound-parts r
              (not-empty ts.what o.what.taxa o.sound.taxa.1 (ts.sound.count ∙ taxa))
              (not-empty cs.what o.what.characters o.sound.characters.1 (cs.sound.count ∙ characters))
              (small_count ts.what counted.taxa)
              (small_count cs.what counted.characters)
              long
              (rw (sym states) (rows-cells h.characters.0 h.states 1 ts.what ts.sound.each))
              (symbols-beside o.what.data_type o.what.symbols (gap_in ts.what) o.sound.symbols (rw (sym gap, sym states) room))
              (rows-names h.characters.0 h.states 1 ts.what ts.sound.each)
              (sym (differ ts.what (spell_characters 1 cs.what []) ts.sound.count stand))
              (characters-labels h.states 1 cs.what cs.sound.each)
              (rw (sym states) (characters-few h.states 1 cs.what cs.sound.each))
              (unordered-dna o.what.data_type cs.what
              (ap (λ d. has_ordered cs.what && is_dna d) (sym typed) ∙ ap (λ d. has_ordered cs.what && d) (sym same-dna) ∙ ap (λ x. x && dna) (sym ordered) ∙ or_right (not (eqb end (length b))) (order && dna) good))

  -- They have its shape.
  pub judged-whole : (s : Shape) → s.data_type ≡ h.data_type → s.taxa.0 ≡ h.taxa.0 → s.characters.0 ≡ h.characters.0 → s.states ≡ h.states
      → (h.states < i → s.symbols ≡ i - 1 - h.states) → s.rows ≡ i → s.lines ≡ j → s.gaps ≡ gaps → s.labelled ≡ label → s.ordered ≡ order
      → RecordJudged b (Some s)
  judged-whole s typed taxa characters states symbols rows lines-from gap labels ordered = let (r, reads) = made in judged-shape b s r reads (shape r reads)
    where
      shape : (r : Reading) → Reads b r → ShapeOf b s r
      shape r reads =
          let at = begun b i h told r reads in
          let e = ended b i h told j gaps rows_told end label order x lines is r reads in
          let f = front (opening r) in
          let size : length (spell_opening (opening r)) ≡ length f + (length r.symbols + 1) =
          ap length (opening-front (opening r)) ∙ length-append f (r.symbols ++ (10 ∷ [])) ∙ ap (λ n. length f + n) (length-append r.symbols (10 ∷ [])) in
          let here : s.symbols ≡ 0 + length f = omega (arith, symbols (omega (arith, at.states, at.end, size)), at.states, at.end, size) in
          let parts : drop 0 b ≡ f ++ (r.symbols ++ (10 ∷ behind r)) =
          opening-stands b r reads ∙ ap (λ l. l ++ behind r) (opening-front (opening r)) ∙ append_assoc f (r.symbols ++ (10 ∷ [])) (behind r)
          ∙ ap (λ l. f ++ l) (append_assoc r.symbols (10 ∷ []) (behind r)) in
          record {
            spelled = sym reads.spelled;
            sound = reads.sound;
            data_type = typed ∙ at.typed;
            taxa = taxa ∙ at.taxa;
            characters = characters ∙ at.characters;
            states = states ∙ at.states;
            symbols = (behind r, ap (λ n. drop n b) here ∙ drop-behind b 0 f (r.symbols ++ (10 ∷ behind r)) parts);
            head = rows ∙ at.end ∙ ap length (sym (append-nil (spell_opening (opening r))) ∙ sym (head-spelled r []));
            rows = ap (λ n. drop n b) rows ∙ at.rest;
            lines = ap (λ n. drop n b) lines-from ∙ lines-at b i h told j gaps rows_told r reads;
            gaps = gap ∙ (rows_end b i h told j gaps rows_told r reads).1;
            labels = labels ∙ e.label-told;
            ordered = ordered ∙ e.order-told;
          }
