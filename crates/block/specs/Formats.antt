-- What the code's format and its options mean: the symbols of a format are the first of its array, those of the options the text of a token by its
-- index.
use Rattle.std.specs.Prelude.{ℕ, ◌≤◌, ◌<◌, length, take, List, ◌≡◌, Some, None, Ok, Err, Result}
use Rattle.std.specs.Prelude as Std
use Rattle.block.specs.Format as F
use Rattle.block.specs.Outcome.{Outcome, done, refused}
use Rattle.block.specs.declared.format_options.Formatting.{Formatting}
use Rattle.block.specs.declared.format_options.Options.{Options}
use Rattle.block.specs.declared.formats.Format.{Format}
use Rattle.lexer.specs.Base.{option_of}
use Rattle.lexer.specs.Stored.{word_of}
use Rattle.std.proofs.Math.Option.{Option, none, some}
use Rattle.lexer.specs.declared.Fault.{Fault}

unfoldable pub meant : Format → F.Format
meant f =
    record {
      data_type = f.data_type;
      symbols = take f.count f.symbols;
      missing = f.missing;
      gap = option_of f.gap;
      respect_case = f.respect_case;
      interleave = f.interleave;
    }

-- The symbols that the text of a token gives, if they were given.
unfoldable pub symbols_of : List ℕ → List ℕ → Std.Option ℕ → Option (List ℕ)
symbols_of text work None = none
symbols_of text work (Some i) = some (F.unspaced (word_of text work i).token.text)

unfoldable pub options_of : List ℕ → List ℕ → Options → F.Options
options_of text work o =
    F.options (option_of o.data_type) (symbols_of text work o.symbols) (option_of o.missing) (option_of o.gap)
    (option_of o.interleave) o.respect_case o.labels o.no_tokens

unfoldable pub formatting_of : List ℕ → List ℕ → Formatting → F.Formatting
formatting_of text work (Formatting.Option o) = F.option (options_of text work o)
formatting_of text work (Formatting.Perhaps o i) = F.perhaps (options_of text work o) i
formatting_of text work (Formatting.Equals o k i) = F.equals (options_of text work o) k i
formatting_of text work (Formatting.Value o k i) = F.value (options_of text work o) k i

unfoldable pub formatted_of : List ℕ → List ℕ → Result Formatting (Fault ℕ) → Outcome F.Formatting
formatted_of text work (Ok m) = done (formatting_of text work m)
formatted_of text work (Err f) = refused f.0 f.1

-- An answer as the options that were given, and as the format that they give.
unfoldable pub optioned : List ℕ → List ℕ → Result Options (Fault ℕ) → Outcome F.Options
optioned text work (Ok o) = done (options_of text work o)
optioned text work (Err f) = refused f.0 f.1

unfoldable pub formatted : List ℕ → List ℕ → Result Options (Fault ℕ) → Outcome F.Format
formatted text work (Ok o) = done (F.format_of (options_of text work o))
formatted text work (Err f) = refused f.0 f.1

-- These are the symbols of a list, so many from the front of an array; a count above 74 says that there are more than 74.
pub record Listed (bytes : List ℕ) (count : ℕ) (l : List ℕ) : Type 0 where
  pub few : count ≤ 74 → take count bytes ≡ l
  pub many : 74 < count → 74 < length l

-- The code's format is this one, or a count above 74 says that this one has more than 74 symbols.
pub record Settled (f : Format) (g : F.Format) : Type 0 where
  pub few : f.count ≤ 74 → meant f ≡ g
  pub many : 74 < f.count → 74 < length g.symbols
