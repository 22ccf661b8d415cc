-- What a matrix that work memory holds reads as. Words are those of the tokens' starts, the front of work memory; what is stored stands behind it.
use Rattle.std.specs.Prelude.{ℕ, take, List, Some, None, Option}
use Rattle.assumptions.specs.TypesHeld.{types_held}
use Rattle.lexer.specs.Base.{option_of, pick}
use Rattle.block.specs.Blocks.{unordered, with_types}
use Rattle.block.specs.Commands.{words}
use Rattle.block.specs.Format.{Format, default_format}
use Rattle.block.specs.NamesHeld.{names_of}
use Rattle.block.specs.Reading.{Reading, Taxon}
use Rattle.block.specs.Typeset.{Types}
use Rattle.commands.specs.StateHeld.{Reader, style_of}
use Rattle.commands.specs.WorkMap.{order_place, labels_place, types_place}
use Rattle.commands.specs.declared.state.Held.{Held}
use Rattle.labels.specs.LabelSlots.{labels_held}
use Rattle.lexer.specs.Stored.{range}
use Rattle.matrix.specs.Lines.{stored}
use Rattle.matrix.specs.OrderHeld.{ordered}
use Rattle.matrix.specs.RowsHeld.{rows_held}
use Rattle.std.proofs.Math.Option.{none, some, get_or}
use Rattle.block.specs.declared.format_options.Options.{Options}

-- The format that was given, or the default.
unfoldable pub format_held : List ℕ → List ℕ → Option Options → Format
format_held text front style = get_or (style_of text front style) default_format

-- The rows under the declared names, of which there are so many and whose numbers stand from a place on, or as they came.
unfoldable pub order_held : List ℕ → List ℕ → List ℕ → ℕ → ℕ → Option (ℕ × ℕ) → List Taxon → List Taxon
order_held text front work at taxa None rows = rows
order_held text front work at taxa (Some (from, to)) rows = ordered rows work at (take taxa (names_of (words (range text front from to))))

-- So many tokens stand in front.
module _ (text work : List ℕ) (count : ℕ) where
  -- The rows of the lines.
  unfoldable pub rows_of : Held → List Taxon
  rows_of h = rows_held text (take count work) (format_held text (take count work) h.style) h.taxa h.characters h.to (stored work count h.lines)

  -- The reading without types.
  unfoldable pub untyped_held : Held → Reading
  untyped_held h =
      let f = format_held text (take count work) h.style in
      record {
        data_type = f.data_type;
        symbols = f.symbols;
        taxa = order_held text (take count work) work (order_place count h.lines h.taxa) h.taxa h.names (rows_of h);
        characters = unordered (labels_held text work (labels_place count h.lines h.taxa) h.characters);
      }

  -- The types of the set.
  unfoldable pub types_at : Held → Types
  types_at h = types_held work (types_place count h.lines h.taxa h.characters) h.characters

  unfoldable pub reading_held : Held → Reading
  reading_held h = with_types (option_of h.default) (pick h.typed (some (types_at h)) none) (untyped_held h)

  unfoldable pub held : Reader
  held = record { reading = reading_held; types = types_at }
