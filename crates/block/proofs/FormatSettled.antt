-- The format that the options of the code give, for each type. Assumes nothing.
use Prim.Native.Nat.{ℕ}
use Rattle.std.specs.Prelude.{Some}
use Rattle.std.specs.Prelude as Std
use Rattle.block.specs.Dna.{acgt}
use Rattle.block.specs.Format.{options, settled, format_of}
use Rattle.block.specs.Formats.{Listed, Settled, meant, options_of}
use Rattle.block.specs.declared.data.DataType.{DataType}
use Rattle.block.specs.declared.format_options.Options.{Options}
use Rattle.block.specs.declared.formats.Format.{Format}
use Rattle.lexer.specs.Base.{bytes, option_of}
use mathlib.Core.Bool.{Bool, false}
use mathlib.Core.List.{List}
use mathlib.Core.Option.{get_or}
use mathlib.Core.Path.{◌≡◌}

-- A format of the code by its parts.
abbrev pub made : DataType → List ℕ → ℕ → ℕ → Std.Option ℕ → Bool → Bool → Format
made t symbols count missing gap case interleave =
    record { data_type = t; symbols = symbols; count = count; missing = missing; gap = gap; respect_case = case; interleave = interleave }

module _ (text work : List ℕ) (o : Options) {symbols : List ℕ} {count missing : ℕ} (m : missing ≡ get_or (option_of o.missing) 63) {interleave : Bool} (i : interleave ≡ get_or (option_of o.interleave) false)
    {t : DataType} (type : t ≡ get_or (option_of o.data_type) DataType.Standard) where
  pub standard-settled : t ≡ DataType.Standard → Listed symbols count (get_or (options_of text work o).symbols (bytes "01"))
      → Settled (made t symbols count missing o.gap o.respect_case interleave) (format_of (options_of text work o))
  unfolding format_of settled options_of options meant
  standard-settled h k = rw (← type, h, m, i) (record { few = λ l. rw (k.few l); many = k.many })

  pub dna-settled : (gap : ℕ) → gap ≡ get_or (option_of o.gap) 45 → t ≡ DataType.Dna → Listed symbols count acgt
      → Settled (made t symbols count missing (Some gap) o.respect_case interleave) (format_of (options_of text work o))
  unfolding format_of settled options_of options meant option_of
  dna-settled gap g h k = rw (← type, h, m, i, g) (record { few = λ l. rw (k.few l); many = k.many })
