-- The record of a matrix that is held, by its pieces: its counts, and its format as the code's format has it. Assumes nothing.
use Rattle.std.specs.Prelude.{Some, None, Option}
use Prim.Native.Nat.{ℕ, suc, ◌≤◌, min}
use Rattle.block.specs.Codes.{Coded}
use Rattle.block.specs.Commands.{words}
use Rattle.block.specs.Formats.{meant}
use Rattle.block.specs.NamesHeld.{names_of}
use Rattle.block.specs.Reading.{Taxon}
use Rattle.block.specs.Blocks.{with_types}
use Rattle.block.specs.declared.formats.Format.{Format}
use Rattle.commands.specs.MatrixHeld.{format_held, held, order_held, reading_held, rows_of, untyped_held}
use Rattle.commands.specs.WorkMap.{map_fits, order_place}
use Rattle.commands.specs.declared.state.Held.{Held}
use Rattle.emit.proofs.PutLaws.{puts-as, puts_then}
use Rattle.emit.specs.Puts.{Puts}
use Rattle.lexer.proofs.Basics.{by-test}
use Rattle.lexer.specs.Base.{pick}
use Rattle.lexer.specs.Stored.{range}
use Rattle.matrix.specs.OrderHeld.{ordered}
use Rattle.parser.proofs.HeldLaws.{held-retypes}
use Rattle.parser.specs.Storing.{symbols_few}
use Rattle.reading.proofs.HeldRows.{rows-laid}
use Rattle.reading.specs.RecordPut.{head_piece, record_piece}
use Rattle.reading.specs.RowLines.{FormatTold, names_count, row_count, taxa_count}
use Rattle.record.specs.Spell.{spell_characters, spell_head, spell_taxa}
use borrow.Author.Tests.{le-leb, ltb-false, ltb-true}
use lib.Dec.{ltb}
use lib.ListN.{length, length-map, length-take, take}
use mathlib.Core.Bool.{Bool, true}
use mathlib.Core.List.{List, [], ◌∷◌}
use mathlib.Core.Path.{◌≡◌, refl, sym, ap, subst, ◌∙◌}
use native.Mathlib.Nat.{min-eq_left, min-eq_right}
use native.Mathlib.Omega.{arith}

-- There are as many rows in declared order as names.
ordered-length : (rows : List Taxon) (work : List ℕ) (at : ℕ) (ns : List (List ℕ)) → length (ordered rows work at ns) ≡ length ns
unfolding ordered
ordered-length rows work at [] = refl
ordered-length rows work at (n ∷ ns) = ap suc (ordered-length rows work (suc at) ns)

-- The smaller of two numbers, by a test.
smaller : (a b : ℕ) → min a b ≡ pick (ltb a b) a b
unfolding pick
smaller a b =
    by-test (ltb a b)
    (λ t. let h = ltb-true a b t in rw t (min-eq_left (omega arith)))
    (λ f. let h = ltb-false a b f in rw f (min-eq_right h))

module _ (text work codes : List ℕ) (count : ℕ) (h : Held) (fit : map_fits (length work) count h.lines h.taxa h.characters ≡ true) where
  abbrev front : List ℕ
  front = take count work

  -- There are as many taxa as the code counts, and as many characters as are held.
  module _ (interleave : Bool) (layout : (format_held text front h.style).interleave ≡ interleave) where
    names-counted : (names : Option (ℕ × ℕ)) → length (order_held text front work (order_place count h.lines h.taxa) h.taxa names (rows_of text work count h))
        ≡ names_count text front (row_count interleave h.lines h.taxa) h.taxa names
    unfolding order_held names_count names_of
    names-counted None = rows-laid text work codes count h fit interleave layout
    names-counted (Some (from, to)) =
        let ws = words (range text front from to) in
        ordered-length (rows_of text work count h) work (order_place count h.lines h.taxa) (take h.taxa (names_of ws))
        ∙ length-take h.taxa (names_of ws) ∙ ap (min h.taxa) (length-map ws _) ∙ smaller h.taxa (length ws)

    pub taxa-counted : length (reading_held text work count h).taxa ≡ taxa_count text front h interleave
    unfolding reading_held with_types untyped_held taxa_count
    taxa-counted = names-counted h.names

  pub characters-counted : length (reading_held text work count h).characters ≡ h.characters
  unfolding held
  characters-counted = (held-retypes text work count).counted h

  -- The first four lines, by the format and the counts.
  head-held : (behind : List ℕ) → head_piece (format_held text front h.style) (length (reading_held text work count h).taxa) (length (reading_held text work count h).characters) behind
      ≡ spell_head (reading_held text work count h) behind
  unfolding head_piece spell_head reading_held with_types untyped_held
  head-held behind = refl

  -- The code's format, where it has few symbols, is that of the matrix, and so are its codes and its layout.
  module _ (format : Format) (same : symbols_few text front h.style ≡ true → meant format ≡ format_held text front h.style) (few : length (format_held text front h.style).symbols ≤ 74) where
    pub format-held : meant format ≡ format_held text front h.style
    unfolding symbols_few
    format-held = same (le-leb _ 74 few)

    pub format-told : Coded (meant format) codes → FormatTold text front codes h.style format.interleave
    unfolding meant
    format-told c = record { coded = subst (λ f. Coded f codes) format-held c; few = few; layout = sym (ap (λ f. f.interleave) format-held) }

    -- The pieces of the record, one behind another.
    pub record-put : {a b c d : List ℕ} {n m k l : ℕ} (taxa : ℕ) → FormatTold text front codes h.style format.interleave → taxa ≡ taxa_count text front h format.interleave
        → Puts a n (head_piece (meant format) taxa h.characters) b m → Puts b m (spell_taxa (untyped_held text work count h).taxa) c k
        → Puts c k (spell_characters 1 (reading_held text work count h).characters) d l → Puts a n (record_piece (reading_held text work count h)) d l
    unfolding record_piece
    record-put taxa told e p q r = puts-as (puts_then p (puts_then q r)) go
      where
        go : (behind : List ℕ) → head_piece (meant format) taxa h.characters (spell_taxa (untyped_held text work count h).taxa (spell_characters 1 (reading_held text work count h).characters behind))
            ≡ spell_head (reading_held text work count h) (spell_taxa (reading_held text work count h).taxa (spell_characters 1 (reading_held text work count h).characters behind))
        go behind =
            let rest = spell_taxa (untyped_held text work count h).taxa (spell_characters 1 (reading_held text work count h).characters behind) in
            ap (λ f. head_piece f taxa h.characters rest) format-held
            ∙ ap (λ t. head_piece (format_held text front h.style) t h.characters rest) (e ∙ sym (taxa-counted format.interleave told.layout))
            ∙ ap (λ s. head_piece (format_held text front h.style) (length (reading_held text work count h).taxa) s rest) (sym characters-counted)
            ∙ head-held rest
            ∙ same-taxa behind
          where
            same-taxa : (behind : List ℕ) → spell_head (reading_held text work count h) (spell_taxa (untyped_held text work count h).taxa (spell_characters 1 (reading_held text work count h).characters behind))
                ≡ spell_head (reading_held text work count h) (spell_taxa (reading_held text work count h).taxa (spell_characters 1 (reading_held text work count h).characters behind))
            same-taxa behind = unfold reading_held with_types in refl
