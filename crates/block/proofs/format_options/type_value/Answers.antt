-- The function `type_value` meets its contract. Assumes nothing.
use Rattle.block.specs.Format.{format_value, options, with_type}
use Rattle.block.specs.Formats.{formatted_of, formatting_of, options_of}
use Rattle.lexer.specs.Base.{bytes, pick, option_of}
use Rattle.block.proofs.format_options.type_value.Goals as goal

pub returns-then-is : goal.returns-then-is
unfolding format_value formatted_of formatting_of options_of options with_type option_of bytes pick
returns-then-is c = rw (← c.is.ensures, c.if-is.true)

pub returns-then-is-2 : goal.returns-then-is-2
unfolding format_value formatted_of formatting_of options_of options with_type option_of bytes pick
returns-then-is-2 c = rw (← c.is.ensures, c.if-is.false, ← c.is-2.ensures, c.if-is-2.true)

pub returns : goal.returns
unfolding format_value formatted_of formatting_of options_of options with_type option_of bytes pick
returns c = rw (← c.is.ensures, c.if-is.false, ← c.is-2.ensures, c.if-is-2.false)
