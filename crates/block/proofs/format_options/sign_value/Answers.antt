-- The function `sign_value` meets its contract. Assumes nothing.
use Rattle.block.proofs.FormatOptions.{unsigned-value}
use Rattle.block.specs.Format.{format_value, options, symbol_value, with_missing, with_gap}
use Rattle.block.specs.Formats.{formatted_of, formatting_of, options_of}
use Rattle.lexer.specs.Base.{pick, option_of}
use Rattle.lexer.specs.Stored.{word_of}
use mathlib.Core.Path.{sym}
use Rattle.block.proofs.format_options.sign_value.Goals as goal

pub returns-in_default : goal.returns-in_default
unfolding formatted_of word_of option_of
returns-in_default c = unsigned-value _ _ _ _ (sym (c.in_default.ensures))

pub returns-then-gap : goal.returns-then-gap
unfolding format_value formatted_of formatting_of options_of options symbol_value with_gap pick option_of
returns-then-gap c = rw (c.if-gap.true, ← c.single_symbol.ensures, c.in-Some.is)

pub returns : goal.returns
unfolding format_value formatted_of formatting_of options_of options symbol_value with_missing pick option_of
returns c = rw (c.if-gap.false, ← c.single_symbol.ensures, c.in-Some.is)
