-- The parts of a record: what is told of the first four lines, the rows and the characters is told of its reading's. Where one of them does not stand, or
-- what is told can be of no reading, there is no record. Assumes nothing.
use Rattle.std.specs.Prelude.{Some, None, Option}
use Prim.Native.Nat.{ℕ, ◌+◌, ◌≤◌}
use Rattle.block.proofs.SoundParts.{labels-sound, names-sound, symbols-sound}
use Rattle.block.specs.Blocks.{has_ordered}
use Rattle.block.specs.Dna.{acgt}
use Rattle.block.specs.Format.{all_valid}
use Rattle.block.specs.Reading.{Reading}
use Rattle.block.specs.Sound.{distinct, gap_in, most_symbols, sound_symbols}
use Rattle.block.specs.declared.data.DataType.{DataType}
use Rattle.judging.proofs.ReadingParts.{characters-good, characters-marks, characters-spelled, rows-gap, rows-good, taxa-spelled}
use Rattle.judging.proofs.RecordReads.{Reads, behind, dna-unordered, judged-none, opening, opening-good, opening-stands, symbols-room}
use Rattle.judging.proofs.TellLaws.{no_end, same-told}
use Rattle.judging.specs.Lists.{Listed, spelled_all}
use Rattle.judging.specs.Opening.{OpeningTold, Sizes, headed_of, opening_sizes, spell_opening}
use Rattle.judging.specs.Parts.{CharacterGood, CharactersTold, RowGood, RowsTold, no_marks, spell_one, spell_row}
use Rattle.judging.specs.Shapes.{RecordJudged}
use Rattle.judging.specs.Tells.{Marks, cells_of, characters_of}
use Rattle.judging.specs.Whole.{is_dna}
use Rattle.judging.specs.declared.heads.Head.{Head}
use Rattle.lexer.proofs.Basics.{all-four, not-both, or-both, same_true}
use Rattle.lexer.specs.Base.{bytes}
use Rattle.naming.proofs.RowLaws.{drop-behind}
use Rattle.naming.specs.Rows.{NamesJudged, RowsStand}
use Rattle.record.specs.Form.{labelled}
use Rattle.record.specs.Spell.{spell_characters}
use borrow.Author.Tests.{eq-eqb, leb-true}
use lib.Dec.{eqb, leb, ltb}
use lib.ListN.{length, drop, length-append}
use mathlib.Core.Bool.{Bool, true, false, ◌&&◌, ◌||◌, not}
use mathlib.Core.List.{List, [], ◌++◌}
use mathlib.Core.Path.{◌≡◌, refl, sym, ap, ◌∙◌}
use native.Mathlib.Omega.{arith}

module _ (b : List ℕ) where
  -- Where the first four lines do not stand, there is no record.
  pub judged-no-opening : (h : Option (ℕ × Head)) → OpeningTold b 0 h → h ≡ None → RecordJudged b None
  unfolding headed_of
  judged-no-opening h told is =
      judged-none b (λ r reads. no_end (ap headed_of (sym is) ∙ told.all (opening r) (behind r) (opening-good r reads.sound reads.counted) (opening-stands b r reads)))

  module _ (i : ℕ) (h : Head) (told : OpeningTold b 0 (Some (i, h))) where
    -- What they say of a reading's record, and where they end.
    pub record Begun (r : Reading) : Type 0 where
      pub typed : h.data_type ≡ r.data_type
      pub taxa : h.taxa.0 ≡ length r.taxa
      pub characters : h.characters.0 ≡ length r.characters
      pub states : h.states ≡ length r.symbols
      pub end : i ≡ length (spell_opening (opening r))
      pub rest : drop i b ≡ behind r

    pub begun : (r : Reading) → Reads b r → Begun r
    unfolding headed_of opening_sizes
    begun r reads =
        let (end, is) = same-told (told.all (opening r) (behind r) (opening-good r reads.sound reads.counted) (opening-stands b r reads)) in
        record {
          typed = ap (λ (s : Sizes). s.data_type) is;
          taxa = ap (λ (s : Sizes). s.taxa) is;
          characters = ap (λ (s : Sizes). s.characters) is;
          states = ap (λ (s : Sizes). s.states) is;
          end = omega (arith, end);
          rest = ap (λ n. drop n b) end ∙ drop-behind b 0 (spell_opening (opening r)) (behind r) (opening-stands b r reads);
        }

    -- The rows of a reading are good, and stand behind them.
    rows-listed : (r : Reading) → Reads b r → Begun r → Listed (λ k. RowGood h.characters.0 h.states) 1 h.taxa.0 r.taxa
    rows-listed r reads at =
        let s = reads.sound in
        record {
          count = sym at.taxa;
          each = rows-good h.characters.0 h.states 1 r.taxa (names-sound r s) (rw at.states s.cells_sound) (rw at.characters s.rows_long);
        }

    rows-stand : (r : Reading) → Begun r → drop i b ≡ spelled_all (λ k. spell_row) 1 r.taxa ++ spell_characters 1 r.characters []
    rows-stand r at = at.rest ∙ taxa-spelled 1 r.taxa (spell_characters 1 r.characters [])

    -- There is a character.
    some-character : 1 ≤ h.characters.0
    unfolding headed_of opening_sizes
    some-character =
        let (s, is) = told.found i _ refl in
        let few : 1 ≤ s.what.characters = leb-true 1 s.what.characters s.sound.characters.1 in
        omega (arith, few, ap (λ (z : Sizes). z.characters) is)

    -- Where they do not stand, there is no record.
    pub judged-no-rows : (r : Option (ℕ × Bool)) → (1 ≤ h.characters.0 → RowsTold b i h.taxa.0 h.characters.0 h.states r) → r ≡ None → RecordJudged b None
    unfolding cells_of
    judged-no-rows c rows is =
        judged-none b
        (λ r reads. let at = begun r reads in no_end (ap cells_of (sym is) ∙ (rows some-character).all r.taxa (spell_characters 1 r.characters []) (rows-listed r reads at) (rows-stand r at)))

    -- Where they do, it is told of them.
    pub rows-there : (c : Option (ℕ × Bool)) → (1 ≤ h.characters.0 → RowsTold b i h.taxa.0 h.characters.0 h.states c) → (j : ℕ) (gaps : Bool) → c ≡ Some (j, gaps)
        → RowsTold b i h.taxa.0 h.characters.0 h.states (Some (j, gaps))
    rows-there c judged j gaps is = rw is at (judged some-character)

    module _ (j : ℕ) (gaps : Bool) (rows_told : RowsTold b i h.taxa.0 h.characters.0 h.states (Some (j, gaps))) where
      -- What is told of the rows of a reading, and where they end.
      pub rows_end : (r : Reading) → Reads b r → (j ≡ i + length (spelled_all (λ k. spell_row) 1 r.taxa)) × (gaps ≡ gap_in r.taxa)
      unfolding cells_of
      rows_end r reads =
          let at = begun r reads in
          let (end, told) = same-told (rows_told.all r.taxa (spell_characters 1 r.characters []) (rows-listed r reads at) (rows-stand r at)) in
          (end, told ∙ rows-gap false r.taxa)

      -- There are too many symbols beside a gap.
      pub judged-no-sign : gaps && ltb 72 h.states ≡ true → RecordJudged b None
      judged-no-sign many =
          judged-none b
          (λ r reads.
          let at = begun r reads in
          let (_, gap) = rows_end r reads in
          not-both (ap (λ g. g && ltb 72 h.states) gap ∙ ap (λ n. gap_in r.taxa && ltb 72 n) at.states ∙ symbols-room r.data_type r.symbols (gap_in r.taxa) (symbols-sound r reads.sound)) many)

      -- Names are alike.
      pub judged-alike : NamesJudged b i h.taxa.0 h.characters.0 false → RecordJudged b None
      judged-alike alike =
          judged-none b
          (λ r reads.
          let at = begun r reads in
          let stand : RowsStand b i h.characters.0 r.taxa (spell_characters 1 r.characters []) =
          record { long = rw at.characters reads.sound.rows_long; here = at.rest } in
          not-both (sym (alike r.taxa (spell_characters 1 r.characters []) (sym at.taxa) stand)) reads.sound.names_unlike)

      -- The characters of a reading are good, and stand behind the rows.
      characters-listed : (r : Reading) → Reads b r → Listed (λ k. CharacterGood h.states) 1 h.characters.0 r.characters
      characters-listed r reads =
          let at = begun r reads in
          record {
            count = sym at.characters;
            each = characters-good h.states 1 r.characters (labels-sound r reads.sound) (rw at.states reads.sound.states_few);
          }

      pub lines-at : (r : Reading) → Reads b r → drop j b ≡ spell_characters 1 r.characters []
      lines-at r reads =
          ap (λ n. drop n b) (rows_end r reads).0
          ∙ drop-behind b i (spelled_all (λ k. spell_row) 1 r.taxa) (spell_characters 1 r.characters []) (rows-stand r (begun r reads))

      characters-stand : (r : Reading) → Reads b r → drop j b ≡ spelled_all spell_one 1 r.characters ++ []
      characters-stand r reads = lines-at r reads ∙ characters-spelled 1 r.characters []

      -- There are few states.
      few-states : h.states ≤ 1048576
      unfolding headed_of opening_sizes sound_symbols most_symbols acgt bytes
      few-states =
          let (s, is) = told.found i _ refl in
          omega (arith, few s.what.data_type s.what.symbols s.sound.symbols, ap (λ (z : Sizes). z.states) is)
        where
          few : (t : DataType) (l : List ℕ) → sound_symbols t l false ≡ true → length l ≤ 73
          few DataType.Standard l g =
              let (two, most, valid, different) = all-four (leb 2 (length l)) (leb (length l) 73) (all_valid l) (distinct l) g in
              leb-true (length l) 73 most
          few DataType.Dna l g = rw (same_true l acgt g) (omega arith)

      -- Where they do not stand, there is no record.
      pub judged-no-characters : (x : Option (ℕ × Bool × Bool)) → (h.states ≤ 1048576 → CharactersTold b j h.characters.0 h.states x) → x ≡ None
          → RecordJudged b None
      unfolding characters_of
      judged-no-characters x lines is =
          judged-none b (λ r reads. no_end (ap characters_of (sym is) ∙ (lines few-states).all r.characters [] (characters-listed r reads) (characters-stand r reads)))

      module _ (end : ℕ) (label order : Bool) (x : Option (ℕ × Bool × Bool)) (lines : h.states ≤ 1048576 → CharactersTold b j h.characters.0 h.states x)
          (is : x ≡ Some (end, label, order)) where
        pub lines-told : CharactersTold b j h.characters.0 h.states (Some (end, label, order))
        lines-told = rw is at (lines few-states)

        -- What is told of the characters of a reading, and where they end.
        pub record Ended (r : Reading) : Type 0 where
          pub reach : end ≡ j + length (spelled_all spell_one 1 r.characters)
          pub label-told : label ≡ labelled r.characters
          pub order-told : order ≡ has_ordered r.characters

        pub ended : (r : Reading) → Reads b r → Ended r
        unfolding characters_of no_marks
        ended r reads =
            let (reach, told) = same-told (lines-told.all r.characters [] (characters-listed r reads) (characters-stand r reads)) in
            let marks = told ∙ characters-marks no_marks r.characters in
            record { reach = reach; label-told = ap (λ (m : Marks). m.labelled) marks; order-told = ap (λ (m : Marks). m.ordered) marks }

        -- Nothing stands behind the characters of a reading.
        all_read : (r : Reading) → Reads b r → end ≡ length b
        all_read r reads =
            let at = begun r reads in
            let rows = spelled_all (λ k. spell_row) 1 r.taxa in
            let lines = spelled_all spell_one 1 r.characters in
            let parts : b ≡ spell_opening (opening r) ++ (rows ++ (lines ++ [])) =
            opening-stands b r reads ∙ ap (λ l. spell_opening (opening r) ++ l) (taxa-spelled 1 r.taxa (spell_characters 1 r.characters []) ∙ ap (λ l. rows ++ l) (characters-spelled 1 r.characters [])) in
            let size : length b ≡ length (spell_opening (opening r)) + (length rows + (length lines + 0)) =
            ap length parts ∙ length-append (spell_opening (opening r)) (rows ++ (lines ++ []))
            ∙ ap (λ n. length (spell_opening (opening r)) + n) (length-append rows (lines ++ []) ∙ ap (λ n. length rows + n) (length-append lines [])) in
            omega (arith, size, at.end, (rows_end r reads).0, (ended r reads).reach)

        -- Something stands behind the characters, or DNA has an ordered one.
        pub judged-otherwise : (dna : Bool) → dna ≡ is_dna h.data_type → not (eqb end (length b)) || (order && dna) ≡ true → RecordJudged b None
        judged-otherwise dna same bad = judged-none b (λ r reads. not-both (or-both (whole r reads) (unordered r reads)) bad)
          where
            whole : (r : Reading) → Reads b r → not (eqb end (length b)) ≡ false
            whole r reads = ap not (eq-eqb end (length b) (all_read r reads))

            unordered : (r : Reading) → Reads b r → order && dna ≡ false
            unordered r reads =
                ap (λ d. order && d) same ∙ ap (λ o. o && is_dna h.data_type) (ended r reads).order-told ∙ ap (λ t. has_ordered r.characters && is_dna t) (begun r reads).typed
                ∙ dna-unordered r.data_type r.characters reads.sound.dna_unordered
