-- The options of FORMAT as the code has them: what is given, and no value for the gap or for missing. Assumes nothing.
use Prim.Native.Nat.{ℕ}
use Rattle.std.specs.Prelude.{is_some, Some, None}
use Rattle.std.specs.Prelude as Std
use Rattle.block.specs.Format.{Options, format_value, single_symbol, symbol_value}
use Rattle.block.specs.Formats.{symbols_of}
use Rattle.block.specs.Outcome.{refused}
use Rattle.block.specs.declared.formats.Valued.{Valued}
use Rattle.lexer.specs.Base.{pick, given}
use Rattle.lexer.specs.Words.{Numbered}
use Rattle.lexer.specs.declared.refusal.Refusal.{Refusal}
use mathlib.Core.Bool.{Bool, true, false}
use mathlib.Core.List.{List}
use mathlib.Core.Option.{none}
use mathlib.Core.Path.{◌≡◌, refl}

pub symbols-given : (text work : List ℕ) (o : Std.Option ℕ) → given (symbols_of text work o) ≡ is_some o
unfolding symbols_of given
symbols-given text work None = refl
symbols-given text work (Some i) = refl

-- no value for the gap or for missing
pub unsigned-value : (o : Options) (gap : Bool) (i : ℕ) (w : Numbered) → single_symbol w.token.text ≡ none → refused Refusal.FormatOption w.index ≡ format_value o (pick gap Valued.Gap Valued.Missing) i w
unfolding format_value symbol_value pick
unsigned-value o true i w e = rw e
unsigned-value o false i w e = rw e
